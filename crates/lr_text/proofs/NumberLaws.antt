-- Decimals against what std's `parse` reads.
use Rattle.std.proofs.Common.{◌≡◌, ◌≢◌, ℕ, zero, suc, ◌<◌, ◌^◌, List, length, get_or, ◌≤◌, IsTrue, Result, Ok, Err, IfSome, IsNone, decimal, arith, sym, ap, ◌∙◌, true≢false}
use Rattle.std.specs.Int.{IsInRange}
use Rattle.std.specs.Result.{result_ok}
use Rattle.std.specs.Str.{IsUtf8}
use Rattle.std.specs.Str.Parse.{AllDigits, digits_value, ParsesUnsigned}
use Rattle.std.proofs.lemmas.Fmt.{length-decimal-le, decimal-digits_value, digits_decimal, digits_value-decimal, decimal_nonempty, first_decimal, decimal_digit, IsAscii-decimal}
use Rattle.std.proofs.lemmas.Str.{IsUtf8-from_ascii}
use Rattle.std.proofs.lemmas.Str.Parse.{IsNumeralModel, numerals_by_value, tells_digits, parse_plain, not_in_digits}
use Rattle.lr_text.specs.Words.{lacks}
use Rattle.lr_text.proofs.WordLaws.{lacks-from_places}

own : IsNumeralModel (AllDigits 10) (digits_value 10)
own = numerals_by_value (AllDigits 10) tells_digits

-- a decimal has no byte but digits
pub decimal-lacks : (byte n : ℕ) → ¬ (IsInRange 48 57 byte) → n < 2 ^ 64 → IsTrue (lacks byte (decimal n))
decimal-lacks byte n other small =
    lacks-from_places byte (decimal n) (λ k within. not_in_digits own (decimal n) byte (digits_decimal own n small) other k within)

-- so it is a word
pub decimal-is_word : (n : ℕ) → n < 2 ^ 64 → IsTrue (lacks 32 (decimal n))
decimal-is_word n small = decimal-lacks 32 n (λ r. omega arith) small

-- it has 1 to 20 bytes
pub length-decimal : (n : ℕ) → n < 2 ^ 64 → (0 < length (decimal n)) × (length (decimal n) ≤ 20)
length-decimal n small = (decimal_nonempty n small, length-decimal-le 20 n (omega arith) (omega arith) small)

-- a decimal begins with no sign, and only that of 0 with a zero
pub decimal_no_sign : (n : ℕ) → n < 2 ^ 64 → get_or (decimal n) 0 0 ≢ 43
decimal_no_sign n small =
    not_in_digits own (decimal n) 43 (digits_decimal own n small) (λ r. omega arith) 0 (decimal_nonempty n small)

pub decimal_no_zeros : (n : ℕ) → n < 2 ^ 64 → get_or (decimal n) 0 0 ≡ 48 → length (decimal n) ≡ 1
decimal_no_zeros zero small is = ap length (decimal_digit 0 (omega arith))
decimal_no_zeros (suc n) small is = absurd (omega (arith, first_decimal (suc n) (omega arith) small))

pub IsUtf8-decimal : (n : ℕ) → n < 2 ^ 64 → IsUtf8 (decimal n)
IsUtf8-decimal n small = IsUtf8-from_ascii (decimal n) (IsAscii-decimal n small)

-- what `parse` gives of a text with no sign and no leading zero
pub parses_some : {E : Type 0} (bs : List ℕ) (r : Result ℕ E) → ParsesUnsigned 64 10 bs r → get_or bs 0 0 ≢ 43
    → (get_or bs 0 0 ≡ 48 → length bs ≡ 1) → IfSome (result_ok r) (λ n. bs ≡ decimal n)
parses_some {E} bs (Ok x) parses no_sign no_zeros =
    let read = parse_plain own {E = E} 64 bs (Ok x) parses no_sign in
    sym (ap decimal read.1 ∙ decimal-digits_value own bs read.0.0 read.0.1 no_zeros read.0.2)
parses_some bs (Err e) parses no_sign no_zeros = tt

pub parses_none : {E : Type 0} (bs : List ℕ) (r : Result ℕ E) → ParsesUnsigned 64 10 bs r → get_or bs 0 0 ≢ 43
    → IsNone (result_ok r) → (n : ℕ) → n < 2 ^ 64 → bs ≢ decimal n
parses_none bs (Ok x) parses no_sign none n small is = absurd (true≢false none)
parses_none {E} bs (Err e) parses no_sign none n small is =
    let fails = parse_plain own {E = E} 64 bs (Err e) parses no_sign in
    let digits : AllDigits 10 bs = rw is (digits_decimal own n small) in
    let some : 0 < length bs = rw is (decimal_nonempty n small) in
    let value : digits_value 10 bs ≡ n = rw is (digits_value-decimal own n small) in
    fails (digits, some, rw value small)
