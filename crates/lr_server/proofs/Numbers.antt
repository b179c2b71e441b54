-- How many numbers below a bound pass a test.
use Rattle.std.proofs.Common.{◌≡◌, ℕ, zero, suc, ◌+◌, ◌<◌, Bool, true, false, if◌then◌else◌, [], ◌∷◌, length, refl, ap, ◌∙◌, arith, ◌⊎◌, inl, inr, length-append}
use Rattle.std.proofs.lemmas.Bool.{cases_eq}
use Rattle.lr_model.specs.Board.{numbers_below}
use Rattle.lr_model.proofs.Numbers.{below_same}

abbrev one_if : Bool → ℕ
one_if b = if b then 1 else 0

-- one number more
below_more : (n : ℕ) (p : ℕ → Bool)
    → length (numbers_below (suc n) p) ≡ length (numbers_below n p) + one_if (p n)
unfolding numbers_below
below_more n p =
    length-append (numbers_below n p) (if p n then n ∷ [] else [])
    ∙ ap (λ k. length (numbers_below n p) + k) (by (p n))
  where
    by : (b : Bool) → length (if b then n ∷ [] else []) ≡ one_if b
    by true = refl
    by false = refl

-- where one number passes no longer, they are one fewer
pub below_fewer : (n : ℕ) (p q : ℕ → Bool) (conn : ℕ) → conn < n → p conn ≡ true → q conn ≡ false
    → ((c : ℕ) → (c ≡ conn → ⊥) → p c ≡ q c)
    → length (numbers_below n q) + 1 ≡ length (numbers_below n p)
below_fewer zero p q conn below was is same = absurd (omega (arith, below))
below_fewer (suc n) p q conn below was is same =
    by_order (cases_eq n conn) (λ before. below_fewer n p q conn before was is same)
  where
    by_order : (n ≡ conn) ⊎ (n ≡ conn → ⊥)
        → (conn < n → length (numbers_below n q) + 1 ≡ length (numbers_below n p))
        → length (numbers_below (suc n) q) + 1 ≡ length (numbers_below (suc n) p)
    by_order (inl at) rest =
        let one : one_if (p n) ≡ 1 = ap one_if (ap p at ∙ was) in
        let none : one_if (q n) ≡ 0 = ap one_if (ap q at ∙ is) in
        let as_many = ap length (below_same n p q (λ c lesser. same c (λ e. omega arith))) in
        omega (arith, below_more n p, below_more n q, one, none, as_many)
    by_order (inr apart) rest =
        let here : one_if (p n) ≡ one_if (q n) = ap one_if (same n apart) in
        omega (arith, below_more n p, below_more n q, here, rest (omega arith))
