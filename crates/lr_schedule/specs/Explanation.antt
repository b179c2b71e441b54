-- How a refused line is explained on standard error: this project's own.
use Rattle.std.specs.Prelude.{ℕ, ◌+◌, ◌/◌, ◌%◌, nat_lt, nat_le, ◌&&◌, if◌then◌else◌, List, [], ◌∷◌, ◌++◌, length, take, codes, decimal}
use Rattle.std.specs.List.{flat_map}

-- how many bytes of a line, or of a word of it, are shown at most: no limit of input
abbrev pub shown_limit : ℕ
shown_limit = 80

-- one of the sixteen digits `0` to `f`
abbrev pub digit_of_sixteen : ℕ → ℕ
digit_of_sixteen d = if nat_lt d 10 then 48 + d else 87 + d

-- printable ASCII as it is, and any other byte by its number
abbrev pub byte_text : ℕ → List ℕ
byte_text b =
    if nat_le 32 b && nat_le b 126 then b ∷ []
    else codes "\\x" ++ digit_of_sixteen (b / 16) ∷ digit_of_sixteen (b % 16) ∷ []

-- the end of a quotation, by how many bytes the text has
abbrev pub quotation_end : ℕ → List ℕ
quotation_end count = if nat_le count shown_limit then codes "\"" else codes "\"..."

-- a text in quotes, of which the first bytes are shown
abbrev pub quotation : List ℕ → List ℕ
quotation text =
    codes "\"" ++ flat_map byte_text (take shown_limit text) ++ quotation_end (length text)

-- the explanation of a line with a number, for a reason
abbrev pub explanation : ℕ → List ℕ → List ℕ → List ℕ
explanation number reason line =
    codes "line " ++ decimal number ++ codes ": " ++ reason ++ quotation line ++ codes ")"
