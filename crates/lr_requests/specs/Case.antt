-- Words of commands, which the Redis protocol page compares without regard to case.
use Rattle.std.specs.Prelude.{◌≡◌, ℕ, List, Bool, map}
use Rattle.std.specs.Char.{to_ascii_lowercase}
use Rattle.std.specs.Str.{bytes_eq}

-- a word with its ASCII letters as small ones
abbrev pub lower : List ℕ → List ℕ
lower word = map to_ascii_lowercase word

-- two words are one but for the case of their ASCII letters
abbrev pub IsSameWord : List ℕ → List ℕ → Type 0
IsSameWord a b = lower a ≡ lower b

-- the test of that
abbrev pub is_same_word : List ℕ → List ℕ → Bool
is_same_word a b = bytes_eq (lower a) (lower b)
