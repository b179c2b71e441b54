-- The threads of a client, looked at one after the other.
use Rattle.std.proofs.Common.{◌≡◌, ◌<◌, ◌+◌, ◌||◌, ℕ, zero, suc, min, Bool, true, false, List, [], ◌∷◌, ◌++◌, Option, Some, None, refl, ap, sym, ◌∙◌, arith, ◌⊎◌, inl, inr}
use Rattle.std.proofs.lemmas.Bool.{cases_eq}
use Rattle.std.proofs.lemmas.List.Folds.{list_any-append}
use Rattle.std.specs.List.{list_any}
use Rattle.lr_model.specs.Board.{numbers_below}
use Rattle.lr_waiting.specs.Stand.{least_of, lesser}

abbrev pub threads_below : ℕ → List ℕ
threads_below n = numbers_below n (λ thread. true)

below-more : (n : ℕ) → threads_below (n + 1) ≡ threads_below n ++ n ∷ []
unfolding numbers_below
below-more n = let e : n + 1 ≡ suc n = omega arith in rw e refl

pub below-none : threads_below 0 ≡ []
unfolding numbers_below
below-none = refl

-- where none of the first passes a test, and the next doesn't
pub any-more : (p : ℕ → Bool) (n : ℕ) → list_any p (threads_below n) ≡ false → p n ≡ false
    → list_any p (threads_below (n + 1)) ≡ false
any-more p n before here =
    ap (list_any p) (below-more n) ∙ list_any-append p (threads_below n) (n ∷ [])
    ∙ ap (λ b. b || list_any p (n ∷ [])) before ∙ ap (λ b. b || false) here

-- where one of them passes it
pub any-one : (p : ℕ → Bool) (n m : ℕ) → n < m → p n ≡ true
    → list_any p (threads_below m) ≡ true
any-one p n zero below is = absurd (omega (arith, below))
any-one p n (suc m) below is =
    ap (list_any p) (ap threads_below next ∙ below-more m)
    ∙ list_any-append p (threads_below m) (m ∷ [])
    ∙ by (λ earlier. any-one p n m earlier is) (cases_eq n m)
  where
    next : suc m ≡ m + 1
    next = omega arith

    or_true : (b : Bool) → (b || true) ≡ true
    or_true true = refl
    or_true false = refl

    by : (n < m → list_any p (threads_below m) ≡ true) → (n ≡ m) ⊎ (n ≡ m → ⊥)
        → (list_any p (threads_below m) || list_any p (m ∷ [])) ≡ true
    by before (inl e) =
        ap (λ b. list_any p (threads_below m) || (b || false)) (ap p (sym e) ∙ is)
        ∙ or_true (list_any p (threads_below m))
    by before (inr apart) =
        ap (λ b. b || list_any p (m ∷ [])) (before (omega (arith, below, apart)))

-- Least moments.

lesser-none : (a : Option ℕ) → lesser a None ≡ a
lesser-none None = refl
lesser-none (Some x) = refl

lesser-lesser : (a b c : Option ℕ) → lesser a (lesser b c) ≡ lesser (lesser a b) c
lesser-lesser None b c = refl
lesser-lesser (Some x) None c = refl
lesser-lesser (Some x) (Some y) None = refl
lesser-lesser (Some x) (Some y) (Some z) =
    let same : min x (min y z) ≡ min (min x y) z = omega arith in
    ap Some same

least-append : (moment : ℕ → Option ℕ) (threads : List ℕ) (n : ℕ)
    → least_of moment (threads ++ n ∷ []) ≡ lesser (least_of moment threads) (moment n)
least-append moment [] n = lesser-none (moment n)
least-append moment (t ∷ threads) n =
    ap (lesser (moment t)) (least-append moment threads n)
    ∙ lesser-lesser (moment t) (least_of moment threads) (moment n)

-- the least of one more
pub least-more : (moment : ℕ → Option ℕ) (n : ℕ) → least_of moment (threads_below (n + 1))
    ≡ lesser (least_of moment (threads_below n)) (moment n)
least-more moment n =
    ap (least_of moment) (below-more n) ∙ least-append moment (threads_below n) n
