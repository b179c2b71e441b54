-- Lists of words of a known length.
use Rattle.std.proofs.Common.{◌≡◌, ℕ, List, [], ◌∷◌, length, refl, ap, arith}
use Rattle.lr_frames.specs.Words.{word_at}

pub list_of_one : (words : List (List ℕ)) → length words ≡ 1 → words ≡ word_at words 0 ∷ []
list_of_one [] h = absurd (omega (arith, h))
list_of_one (a ∷ []) h = refl
list_of_one (a ∷ b ∷ words) h = absurd (omega (arith, h))

pub list_of_two : (words : List (List ℕ)) → length words ≡ 2
    → words ≡ word_at words 0 ∷ word_at words 1 ∷ []
list_of_two [] h = absurd (omega (arith, h))
list_of_two (a ∷ words) h = ap (λ (l : List (List ℕ)). a ∷ l) (list_of_one words (omega (arith, h)))

pub list_of_three : (words : List (List ℕ)) → length words ≡ 3
    → words ≡ word_at words 0 ∷ word_at words 1 ∷ word_at words 2 ∷ []
list_of_three [] h = absurd (omega (arith, h))
list_of_three (a ∷ words) h =
    ap (λ (l : List (List ℕ)). a ∷ l) (list_of_two words (omega (arith, h)))
