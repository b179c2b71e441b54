-- Places in lists and sorted sets: signed numbers of 64 bits in their one spelling, which has no
-- plus sign, no zero in front, and no `-0`. The spelling is this project's own.
use Rattle.std.specs.Prelude.{◌≡◌, ℕ, ◌<◌, ◌^◌, ℤ, pos, negsuc, List}
use Rattle.std.specs.Fmt.{signed_decimal}

-- a number of 64 bits
abbrev pub IsPlace : ℤ → Type 0
IsPlace (pos n) = n < 2 ^ 63
IsPlace (negsuc n) = n < 2 ^ 63

abbrev pub IsPlaceText : List ℕ → Type 0
IsPlaceText text = (place : ℤ) × IsPlace place × (text ≡ signed_decimal place)
