use Rattle.std.proofs.Common.{◌≡◌, ◌⊎◌, inl, inr, ◌*◌, ◌/◌, ◌^◌, ◌<◌, ◌≤◌, get_or, length, refl, ap, sym, ◌∙◌, arith, false, slice_get}
use Rattle.std.proofs.lemmas.Bool.{cases_lt}
use Rattle.lr_model.proofs.Tables.{one_table}
use Rattle.lr_pubsub.specs.ConnectionSet.{has_number}
use Rattle.lr_pubsub.proofs.ConnectionSets.{has_number-past, has_number-zero, lowest-first, lowest-has, lowest-inside}
use Rattle.lr_model.proofs.Numbers.{below_next, below_none}
use Rattle.lr_pubsub.proofs.connection_set.ConnectionSet.first.Goals as goal

pub returns-then-word-ne0-clause-least : goal.returns-then-word-ne0-clause-least
returns-then-word-ne0-clause-least c =
    let set = c.args.self.now in
    let place = c.loop-place.place in
    let word = get_or set.words place 0 in
    let some : 0 < word = omega arith in
    let fits : word < 2 ^ 64 = omega arith in
    let inside = lowest-inside set place word refl some fits in
    let many : length set.words ≡ 4 = omega arith in
    let next = below_next 256 (has_number set) _ (omega arith)
    (lowest-has set place word refl some fits)
    (lowest-first set place word refl some fits c.loop-place.invariant) in
    sym (ap (λ xs. slice_get xs 0) next)

pub loop-place-preserved : goal.loop-place-preserved
loop-place-preserved c = λ k below.
    let set = c.args.self.now in
    let place = c.loop-place.place in
    let none : get_or set.words place 0 ≡ 0 = omega arith in
    let by : (k < 64 * place) ⊎ (64 * place ≤ k) → has_number set k ≡ false =
    λ at. elim at as (λ _. has_number set k ≡ false) [
      | inl before ↦ c.loop-place.invariant k before
      | inr here ↦ let is : k / 64 ≡ place = omega arith in
          has_number-zero set k (ap (λ r. get_or set.words r 0) is ∙ none)
    ] in
    by (cases_lt k (64 * place))

pub returns-clause-least : goal.returns-clause-least
returns-clause-least c =
    let set = c.args.self.now in
    let many : length set.words ≡ 4 = omega arith in
    sym (ap (λ xs. slice_get xs 0)
    (below_none 256 (has_number set) (λ k below. c.loop-place.invariant k (omega arith))))

pub returns-clause-none : goal.returns-clause-none
returns-clause-none c =
    let set = c.args.self.now in
    let many : length set.words ≡ 4 = omega arith in
    one_table _ _
    (λ k. elim (cases_lt k (64 * c.loop-place.place)) as (λ _. has_number set k ≡ false) [
      | inl before ↦ c.loop-place.invariant k before
      | inr past ↦ has_number-past set k (omega arith)
    ])
