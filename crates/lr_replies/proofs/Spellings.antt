-- A number with a minus isn't spelled as one with none.
use Rattle.std.proofs.Common.{◌≡◌, ◌≢◌, ℕ, zero, suc, ◌<◌, ◌^◌, List, ◌∷◌, ◌++◌, get_or, drop, decimal, arith, refl, sym, ap, ℤ, pos, negsuc}
use Rattle.std.proofs.lemmas.Fmt.{decimal_digit, first_decimal}
use Rattle.std.proofs.lemmas.List.{append_cancel_right}
use Rattle.lr_resp.specs.declared.frame.Frame.TheVariants.{Number}
use Rattle.lr_resp.specs.Spelling.{spelling, line_end}

first : List ℕ → ℕ
first bytes = get_or bytes 0 0

no_minus : (n : ℕ) (bytes : List ℕ) → n < 2 ^ 64 → decimal n ≢ 45 ∷ bytes
unfolding first
no_minus zero bytes small is =
    omega (arith, ap first is, ap first (decimal_digit 0 (omega arith)))
no_minus (suc n) bytes small is =
    omega (arith, ap first is, first_decimal (suc n) (omega arith) small)

pub no_natural : (number : ℤ) → ((n : ℕ) → number ≢ pos n) → (n : ℕ) → n < 2 ^ 63
    → spelling (Number number) ≢ spelling (Number (pos n))
no_natural (pos m) none n small is = none m refl
no_natural (negsuc m) none n small is =
    let minus = 45 ∷ decimal (suc m) in
    let lines : minus ++ line_end ≡ decimal n ++ line_end = ap (drop 1) is in
    no_minus n (decimal (suc m)) (omega (arith, small))
    (sym (append_cancel_right minus (decimal n) line_end lines))
