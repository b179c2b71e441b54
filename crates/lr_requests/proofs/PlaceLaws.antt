-- Places have one spelling.
use Rattle.std.proofs.Common.{◌≡◌, ◌≢◌, ℕ, ◌<◌, ◌^◌, ℤ, pos, negsuc, List, ◌∷◌, suc, drop, decimal, sym, ap, ◌∙◌, true≢false, arith}
use Rattle.std.specs.Fmt.{signed_decimal}
use Rattle.std.proofs.lemmas.Fmt.{decimal_injective}
use Rattle.std.specs.Int.{IsInRange}
use Rattle.lr_text.specs.Words.{lacks}
use Rattle.lr_text.proofs.NumberLaws.{decimal-lacks}
use Rattle.lr_requests.specs.Places.{IsPlace, IsPlaceText}

not_a_digit : IsInRange 48 57 45 → ⊥
not_a_digit h = omega arith

-- a number has no minus sign in it
pub decimal_no_minus : (n : ℕ) (digits : List ℕ) → n < 2 ^ 64 → 45 ∷ digits ≢ decimal n
decimal_no_minus n digits small same =
    true≢false (sym (decimal-lacks 45 n not_a_digit small) ∙ ap (lacks 45) (sym same))

-- what stands behind a minus sign is no number above 0, and so the whole is no place
no_negative : (digits : List ℕ) → ((n : ℕ) → n < 2 ^ 63 → digits ≢ decimal (suc n))
    → (place : ℤ) → IsPlace place → 45 ∷ digits ≢ signed_decimal place
no_negative digits none (pos n) small same = decimal_no_minus n digits (omega arith) same
no_negative digits none (negsuc n) small same = none n small (ap (drop 1) same)

pub no_place_behind_minus : (digits : List ℕ)
    → ((n : ℕ) → n < 2 ^ 63 → digits ≢ decimal (suc n)) → ¬ (IsPlaceText (45 ∷ digits))
no_place_behind_minus digits none h = no_negative digits none h.0 h.1 h.2

-- the same without a minus sign
no_positive : (text : List ℕ) → ((digits : List ℕ) → text ≢ 45 ∷ digits)
    → ((n : ℕ) → n < 2 ^ 63 → text ≢ decimal n)
    → (place : ℤ) → IsPlace place → text ≢ signed_decimal place
no_positive text no_minus none (pos n) small same = none n small same
no_positive text no_minus none (negsuc n) small same = no_minus (decimal (suc n)) same

pub no_place_without_minus : (text : List ℕ) → ((digits : List ℕ) → text ≢ 45 ∷ digits)
    → ((n : ℕ) → n < 2 ^ 63 → text ≢ decimal n) → ¬ (IsPlaceText text)
no_place_without_minus text no_minus none h = no_positive text no_minus none h.0 h.1 h.2

-- two places with one spelling are one
pub one_place : (a b : ℤ) → IsPlace a → IsPlace b → signed_decimal a ≡ signed_decimal b → a ≡ b
one_place (pos m) (pos n) in_a in_b same =
    ap pos (decimal_injective m n (omega arith) (omega arith) same)
one_place (pos m) (negsuc n) in_a in_b same =
    absurd (decimal_no_minus m (decimal (suc n)) (omega arith) (sym same))
one_place (negsuc m) (pos n) in_a in_b same =
    absurd (decimal_no_minus n (decimal (suc m)) (omega arith) same)
one_place (negsuc m) (negsuc n) in_a in_b same =
    let more = decimal_injective (suc m) (suc n) (omega arith) (omega arith) (ap (drop 1) same) in
    let less : m ≡ n = omega (arith, more) in
    ap negsuc less
