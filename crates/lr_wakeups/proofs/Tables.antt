-- Tables after something was put at a key: what is so there, and that all else stays.
use Rattle.std.proofs.Common.{◌≡◌, ℕ, ◌==◌, Bool, true, false, if◌then◌else◌, refl, sym, ap, ◌∙◌, subst}
use Rattle.std.proofs.lemmas.Bool.{eqb-true, eqb-false, eq-eqb, ne_eqb}
use Rattle.lr_names.specs.Channel.{ChannelOf}
use Rattle.lr_model.specs.Board.{same_channel}
use Rattle.lr_model.specs.Table.{put}
use Rattle.lr_model.proofs.SameChannel.{same_is, same_symm}

-- another channel stays
pub at_channel : {X : Type 0} (P : ChannelOf → X → Type 0) (table : ChannelOf → X)
    (channel : ChannelOf) (x : X) → P channel x
    → ((q : ChannelOf) → same_channel q channel ≡ false → P q (table q))
    → (q : ChannelOf) → P q (put same_channel table channel x q)
at_channel P table channel x here there q = by (same_channel channel q) refl
  where
    by : (same : Bool) → same_channel channel q ≡ same → P q (if same then x else table q)
    by true e = subst (λ c. P c x) (same_is channel q e) here
    by false e = there q (same_symm q channel ∙ e)

-- another thread stays
pub at_thread : {X : Type 0} (P : ℕ → X → Type 0) (table : ℕ → X) (thread : ℕ) (x : X) → P thread x
    → ((t : ℕ) → (t ≡ thread → ⊥) → P t (table t)) → (t : ℕ) → P t (put ◌==◌ table thread x t)
at_thread P table thread x here there t = by (thread == t) refl
  where
    by : (same : Bool) → (thread == t) ≡ same → P t (if same then x else table t)
    by true e = subst (λ n. P n x) (eqb-true thread t e) here
    by false e = there t (λ same. eqb-false thread t e (sym same))

pub put_here : {X : Type 0} (table : ℕ → X) (thread : ℕ) (x : X)
    → put ◌==◌ table thread x thread ≡ x
put_here table thread x =
    ap (λ b. if b then x else table thread) (eq-eqb thread thread refl)

pub put_there : {X : Type 0} (table : ℕ → X) (thread : ℕ) (x : X) (t : ℕ) → (t ≡ thread → ⊥)
    → put ◌==◌ table thread x t ≡ table t
put_there table thread x t apart =
    ap (λ b. if b then x else table t) (ne_eqb thread t (λ e. apart (sym e)))
