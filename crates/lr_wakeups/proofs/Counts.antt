-- How many pass a test: of a list, and of the numbers below a bound.
use Rattle.std.proofs.Common.{◌≡◌, ℕ, zero, suc, ◌+◌, ◌<◌, ◌≤◌, ◌==◌, List, [], ◌∷◌, ◌++◌, Bool, true, false, refl, ap, ◌∙◌, arith, ◌⊎◌, inl, inr}
use Rattle.std.proofs.lemmas.Bool.{cases_eq}
use Rattle.lr_model.specs.Table.{put}
use Rattle.lr_wakeups.specs.Counting.{one_if, count_of, count_below}
use Rattle.lr_wakeups.proofs.Tables.{put_here, put_there}

pub count_of-append : {X : Type 0} (test : X → Bool) (xs ys : List X)
    → count_of test (xs ++ ys) ≡ count_of test xs + count_of test ys
count_of-append test [] ys = omega arith
count_of-append test (x ∷ xs) ys = omega (arith, count_of-append test xs ys)

-- one more at the end
pub count_of-push : {X : Type 0} (test : X → Bool) (xs : List X) (x : X)
    → count_of test (xs ++ x ∷ []) ≡ count_of test xs + one_if (test x)
count_of-push test xs x = omega (arith, count_of-append test xs (x ∷ []))

-- tests that agree below the bound
pub count_same : (n : ℕ) (p q : ℕ → Bool) → ((t : ℕ) → t < n → q t ≡ p t)
    → count_below n q ≡ count_below n p
unfolding count_below
count_same zero p q same = refl
count_same (suc n) p q same =
    let rest = count_same n p q (λ t below. same t (omega (arith, below))) in
    let last = ap one_if (same n (omega arith)) in
    omega (arith, rest, last)

-- tests that agree but at one number
pub count_changed : (n : ℕ) (p q : ℕ → Bool) (thread : ℕ) → thread < n
    → ((t : ℕ) → t < n → (t ≡ thread → ⊥) → q t ≡ p t)
    → count_below n q + one_if (p thread) ≡ count_below n p + one_if (q thread)
unfolding count_below
count_changed zero p q thread below same = absurd (omega (arith, below))
count_changed (suc n) p q thread below same =
    by (cases_eq n thread)
    (λ lesser. count_changed n p q thread lesser (λ t less. same t (omega (arith, less))))
  where
    by : (n ≡ thread) ⊎ (n ≡ thread → ⊥)
        → (thread < n → count_below n q + one_if (p thread) ≡ count_below n p + one_if (q thread))
        → (count_below n q + one_if (q n)) + one_if (p thread)
        ≡ (count_below n p + one_if (p n)) + one_if (q thread)
    by (inl here) rest =
        let before = count_same n p q (λ t less. same t (omega (arith, less)) (λ e. omega (arith, less, e, here))) in
        let ps = ap (λ t. one_if (p t)) here in
        let qs = ap (λ t. one_if (q t)) here in
        omega (arith, before, ps, qs)
    by (inr apart) rest =
        let last = ap one_if (same n (omega arith) apart) in
        omega (arith, rest (omega (arith, below, apart)), last)

-- one that passes is counted
pub count_some : (n : ℕ) (p : ℕ → Bool) (thread : ℕ) → thread < n → p thread ≡ true
    → 1 ≤ count_below n p
count_some n p thread below passes =
    let without = count_changed n p (put ◌==◌ p thread false) thread below
    (λ t less apart. put_there p thread false t apart) in
    let here = ap one_if passes in
    let there = ap one_if (put_here p thread false) in
    omega (arith, without, here, there)

-- and so are two
pub count_two : (n : ℕ) (p : ℕ → Bool) (thread other : ℕ) → thread < n → other < n
    → (other ≡ thread → ⊥) → p thread ≡ true → p other ≡ true → 2 ≤ count_below n p
count_two n p thread other below more apart passes others =
    let without = count_changed n p (put ◌==◌ p thread false) thread below
    (λ t less away. put_there p thread false t away) in
    let here = ap one_if passes in
    let there = ap one_if (put_here p thread false) in
    let rest = count_some n (put ◌==◌ p thread false) other more
    (put_there p thread false other apart ∙ others) in
    omega (arith, without, here, there, rest)
