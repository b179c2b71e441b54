-- What a window keeps, and what a read adds to it.
use Rattle.std.specs.Prelude.{◌≡◌, ℕ, ◌<◌, List, ◌++◌, length, slice_range, Option}
use Rattle.std.specs.Io.KnownBytes.{Keeps, Consumes, IsAtEnd}
use Rattle.lr_outside.specs.declared.source.ReadTurn.{ReadTurn}
use Rattle.lr_outside.specs.declared.source.ReadTurn.TheVariants.{Got, End, Failed}
use Rattle.lr_outside.specs.declared.window.Window.{Window}

-- the bytes between the two places
abbrev pub kept_bytes : Window → List ℕ
kept_bytes w = slice_range w.buffer.items w.start w.end

-- new bytes stand behind the kept ones, and the source has lost them
pub record Grows (old new : List ℕ) (left_old left_new : Option (List ℕ)) : Type 0 where
  pub bytes : List ℕ
  pub kept : new ≡ old ++ bytes
  pub some : 0 < length bytes
  pub taken : Consumes left_old left_new bytes

-- a read adds what it got, and nothing at the end or where it failed
abbrev pub Fills : List ℕ → List ℕ → Option (List ℕ) → Option (List ℕ) → ReadTurn → Type 0
Fills old new left_old left_new (Got _) = Grows old new left_old left_new
Fills old new left_old left_new End = (new ≡ old) × Keeps left_old left_new × IsAtEnd left_old
Fills old new left_old left_new Failed = (new ≡ old) × Keeps left_old left_new
