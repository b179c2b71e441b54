-- What a plain source has left, and what its next read gives.
use Rattle.std.specs.Prelude.{◌≡◌, ℕ, min, List, [], length}
use Rattle.lr_outside.specs.declared.source.ReadTurn.{ReadTurn}
use Rattle.lr_outside.specs.declared.source.ReadTurn.TheVariants.{Got, End, Failed}
use Rattle.lr_outside.specs.declared.plain_source.PlainSource.{PlainSource}

-- the bytes that reads have yet to give
abbrev pub plain_bytes_left : PlainSource → List ℕ
plain_bytes_left s = s.left.now

-- a read gives all that is left, or as much of it as there is room for, and never fails
abbrev pub GivesAll : List ℕ → ℕ → ReadTurn → Type 0
GivesAll left room (Got n) = n ≡ min (length left) room
GivesAll left room End = left ≡ []
GivesAll left room Failed = ⊥
