-- How many pass a test: of a list, and of the numbers below a bound.
use Rattle.std.specs.Prelude.{ℕ, zero, suc, ◌+◌, List, [], ◌∷◌, Bool, if◌then◌else◌}

-- 1 for what passes
abbrev pub one_if : Bool → ℕ
one_if passes = if passes then 1 else 0

abbrev pub count_of : {X : Type 0} → (X → Bool) → List X → ℕ
count_of test [] = 0
count_of test (x ∷ xs) = one_if (test x) + count_of test xs

unfoldable pub count_below : ℕ → (ℕ → Bool) → ℕ
count_below zero test = 0
count_below (suc n) test = count_below n test + one_if (test n)
