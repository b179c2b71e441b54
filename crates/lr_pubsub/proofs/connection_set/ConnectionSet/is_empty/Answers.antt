use Rattle.std.proofs.Common.{◌≡◌, ℕ, Bool, refl, ap, ◌∙◌, true, false, not, Option, Some, None, IsTrue, IfNone, slice_get}
use Rattle.std.specs.Option.{is_some}
use Rattle.lr_pubsub.specs.ConnectionSet.{has_number}
use Rattle.lr_model.proofs.Numbers.{below_none}
use Rattle.lr_pubsub.proofs.connection_set.ConnectionSet.is_empty.Goals as goal

-- what a search says that found nothing, and that it found nothing
is_none-found : {P : Type 0} (first : Option ℕ) (answer : Bool) → is_some first ≡ not answer
    → IfNone first P → IsTrue answer → P
is_none-found None answer e empty is = empty
is_none-found (Some k) answer e empty is = absurd (cc (e, ap not is))

is_none-told : (first : Option ℕ) (answer : Bool) → is_some first ≡ not answer → first ≡ None
    → IsTrue answer
is_none-told first true e none = refl
is_none-told first false e none = absurd (cc (ap is_some none, e))

pub returns : goal.returns
returns c = (
  is_none-found c.first.result c.is_none.result c.is_none.ensures c.first.ensures.none,
  λ empty.
      let none = below_none 256 (has_number c.args.self.now)
      (λ k below. ap (λ (p : ℕ → Bool). p k) empty) in
      is_none-told c.first.result c.is_none.result c.is_none.ensures
      (c.first.ensures.least ∙ ap (λ xs. slice_get xs 0) none),
)
