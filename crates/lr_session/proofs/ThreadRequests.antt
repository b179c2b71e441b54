-- The requests of a client's threads, after a change at one thread.
use Rattle.std.proofs.Common.{◌≡◌, ◌==◌, ℕ, ◌<◌, List, Bool, true, false, Option, Some, None, IfSome, if◌then◌else◌, refl, sym, ap, subst, ◌∙◌, arith}
use Rattle.std.proofs.lemmas.Bool.{eqb-true, eq-eqb}
use Rattle.lr_limits.specs.Limits.{thread_limit}
use Rattle.lr_model.specs.Table.{put}
use Rattle.lr_model.proofs.Tables.{one_table}
use Rattle.lr_waiting.specs.declared.waiter.Waiter.{Waiter}
use Rattle.lr_session.specs.Value.{AreRequests, IsRequest, waiter_of}

-- the request of each thread, one by one
pub changed_at : (thread : ℕ) (value : Option Waiter) (old new : List (ℕ × Waiter))
    → ((q : ℕ) → waiter_of new q ≡ (if thread == q then value else waiter_of old q))
    → waiter_of new ≡ put ◌==◌ (waiter_of old) thread value
changed_at thread value old new changed = one_table _ _ changed

-- where a request of a thread is put, or none, all requests are such
pub valid-put : (thread : ℕ) (value : Option Waiter) (old new : List (ℕ × Waiter))
    → waiter_of new ≡ put ◌==◌ (waiter_of old) thread value
    → ((waiter : Waiter) → value ≡ Some waiter → IsRequest thread waiter)
    → AreRequests old → AreRequests new
valid-put thread value old new is fits before = record {
  at = λ q waiter found.
      by q waiter (thread == q) refl (sym (ap (λ (table : ℕ → Option Waiter). table q) is) ∙ found);
}
  where
    by : (q : ℕ) (waiter : Waiter) (b : Bool) → (thread == q) ≡ b
        → (if b then value else waiter_of old q) ≡ Some waiter → IsRequest q waiter
    by q waiter true same found =
        subst (λ t. IsRequest t waiter) (eqb-true thread q same) (fits waiter found)
    by q waiter false other found = before.at q waiter found

-- no thread outside the limits has a request
pub absent : (rows : List (ℕ × Waiter)) → AreRequests rows → (thread : ℕ)
    → ((waiter : Waiter) → IsRequest thread waiter → ⊥) → waiter_of rows thread ≡ None
absent rows valid thread apart = by (waiter_of rows thread) refl
  where
    by : (found : Option Waiter) → waiter_of rows thread ≡ found → waiter_of rows thread ≡ None
    by None is = is
    by (Some waiter) is = absurd (apart waiter (valid.at thread waiter is))

pub none-at_zero : (rows : List (ℕ × Waiter)) → AreRequests rows → waiter_of rows 0 ≡ None
none-at_zero rows valid = absent rows valid 0 (λ waiter request.
    let fits = request.thread_fits.0 in omega (arith, fits))

pub none-above : (rows : List (ℕ × Waiter)) → AreRequests rows → (thread : ℕ)
    → thread_limit < thread → waiter_of rows thread ≡ None
none-above rows valid thread above = absent rows valid thread (λ waiter request.
    let fits = request.thread_fits.1 in omega (arith, fits, above))

-- a request that was found is such
pub found-fits : (rows : List (ℕ × Waiter)) → AreRequests rows → (thread : ℕ)
    (found : Option Waiter) → found ≡ waiter_of rows thread → IfSome found (IsRequest thread)
found-fits rows valid thread None is = tt
found-fits rows valid thread (Some waiter) is = valid.at thread waiter (sym is)

-- what was put at a thread
pub put-same : (table : ℕ → Option Waiter) (thread : ℕ) (value : Option Waiter)
    → put ◌==◌ table thread value thread ≡ value
put-same table thread value =
    ap (λ b. if b then value else table thread) (eq-eqb thread thread refl)
