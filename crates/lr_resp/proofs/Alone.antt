-- What a frame is, whose spelling is that of a null, of a number or of a bulk string. It may be any
-- frame, also one outside the limits.
use Rattle.std.proofs.Common.{◌≡◌, ℕ, ◌+◌, ◌≤◌, ◌<◌, ◌^◌, List, [], ◌∷◌, ◌++◌, length, drop, decimal, arith, sym, ap, refl, length-append, ℤ}
use Rattle.std.specs.Fmt.{signed_decimal}
use Rattle.std.specs.Int.RustNames.{FitsSigned}
use Rattle.std.specs.Int.{w64}
use Rattle.std.proofs.lemmas.List.{append_cancel_right}
use Rattle.std.proofs.lemmas.Fmt.{decimal_digit, length-decimal-le}
use Rattle.lr_resp.specs.declared.frame.Frame.{Frame}
use Rattle.lr_resp.specs.declared.frame.Frame.TheVariants.{Simple, Fault, Number, Bulk, Null, NullArray, Array}
use Rattle.lr_resp.specs.Limits.{bulk_limit}
use Rattle.lr_resp.specs.Spelling.{spelling, line_end}
use Rattle.lr_resp.proofs.One.{line_parts, decimal_clean, signed_same}

bulk_size : (text : List ℕ)
    → length (spelling (Bulk text)) ≡ length (decimal (length text)) + length text + 5
bulk_size text =
    omega (
      arith,
      length-append (decimal (length text)) (line_end ++ (text ++ line_end)),
      length-append text line_end,
    )

first : List ℕ → ℕ
first [] = 0
first (b ∷ bytes) = b

pub null_alone : (frame : Frame) → spelling frame ≡ spelling Null → frame ≡ Null
unfolding first
null_alone (Simple text) is = absurd (omega (arith, ap first is))
null_alone (Fault text) is = absurd (omega (arith, ap first is))
null_alone (Number n) is = absurd (omega (arith, ap first is))
null_alone (Bulk []) is =
    let one : length (decimal 0) ≡ 1 = ap length (decimal_digit 0 (omega arith)) in
    absurd (omega (arith, ap length is, bulk_size [], one))
null_alone (Bulk (b ∷ text)) is = absurd (omega (arith, ap length is, bulk_size (b ∷ text)))
null_alone Null is = refl
null_alone NullArray is = absurd (omega (arith, ap first is))
null_alone (Array items) is = absurd (omega (arith, ap first is))

pub number_alone : (frame : Frame) (n : ℤ) → ((m : ℤ) → frame ≡ Number m → FitsSigned w64 m)
    → FitsSigned w64 n → spelling frame ≡ spelling (Number n) → frame ≡ Number n
unfolding first
number_alone (Number m) n fits within is =
    let tails : signed_decimal m ++ line_end ≡ signed_decimal n ++ line_end = ap (drop 1) is in
    ap Number (signed_same m n (fits m refl) within
    (append_cancel_right (signed_decimal m) (signed_decimal n) line_end tails))
number_alone (Simple text) n fits within is = absurd (omega (arith, ap first is))
number_alone (Fault text) n fits within is = absurd (omega (arith, ap first is))
number_alone (Bulk text) n fits within is = absurd (omega (arith, ap first is))
number_alone Null n fits within is = absurd (omega (arith, ap first is))
number_alone NullArray n fits within is = absurd (omega (arith, ap first is))
number_alone (Array items) n fits within is = absurd (omega (arith, ap first is))

bulk_same : (text other : List ℕ) → length other ≤ bulk_limit
    → spelling (Bulk text) ≡ spelling (Bulk other) → text ≡ other
bulk_same text other short is =
    let few : length (decimal (length other)) ≤ 5 =
    length-decimal-le 5 (length other) (omega arith) (omega (arith, short))
    (omega (arith, short)) in
    let small : length text < 2 ^ 64 =
    omega (arith, ap length is, bulk_size text, bulk_size other, few, short) in
    let tails : decimal (length text) ++ (line_end ++ (text ++ line_end))
    ≡ decimal (length other) ++ (line_end ++ (other ++ line_end)) = ap (drop 1) is in
    let parts = line_parts (decimal (length text)) (decimal (length other)) (text ++ line_end)
    (other ++ line_end) (decimal_clean (length text) small)
    (decimal_clean (length other) (omega (arith, short))) tails in
    append_cancel_right text other line_end parts.1

pub bulk_alone : (frame : Frame) (text : List ℕ) → length text ≤ bulk_limit
    → spelling frame ≡ spelling (Bulk text) → frame ≡ Bulk text
unfolding first
bulk_alone (Bulk other) text short is = ap Bulk (bulk_same other text short is)
bulk_alone Null text short is = sym (null_alone (Bulk text) (sym is))
bulk_alone (Simple other) text short is = absurd (omega (arith, ap first is))
bulk_alone (Fault other) text short is = absurd (omega (arith, ap first is))
bulk_alone (Number n) text short is = absurd (omega (arith, ap first is))
bulk_alone NullArray text short is = absurd (omega (arith, ap first is))
bulk_alone (Array items) text short is = absurd (omega (arith, ap first is))
