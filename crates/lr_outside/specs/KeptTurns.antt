-- What the bytes that a reader keeps tell of the next turn.
use Rattle.std.specs.Prelude.{◌≡◌, ◌≢◌, true, false, ℕ, ◌<◌, ◌≤◌, List, [], ◌∷◌, ◌++◌, length, take, Option, Some, None}
use Rattle.lr_outside.specs.Reading.{Reading}
use Rattle.lr_outside.specs.Lines.{HasNoLineEnd, IsUndecided}
use Rattle.lr_limits.specs.Limits.{line_limit}
use Rattle.lr_outside.specs.declared.line_reader.LineTurn.{LineTurn}
use Rattle.lr_outside.specs.declared.line_reader.LineTurn.TheVariants.{Line, End, TooLong, Fault}

-- a line that stands there whole
pub record IsKeptLine (old new : Reading) (line : List ℕ) : Type 0 where
  pub bytes : old.kept ≡ line ++ 10 ∷ new.kept
  pub whole : HasNoLineEnd line
  pub fits : length line ≤ line_limit
  pub free : new.stuck ≡ false

-- so many bytes without LF that no line begins with them
pub record IsKeptTooLong (old new : Reading) : Type 0 where
  pub count : ℕ
  pub long : line_limit < count
  pub within : count ≤ length old.kept
  pub whole : HasNoLineEnd (take count old.kept)
  pub kept : new.kept ≡ old.kept
  pub stuck : new.stuck ≡ true

-- without a read: nothing yet, the first line, or that it is too long
abbrev pub IsKeptTurn : Reading → Reading → Option LineTurn → Type 0
IsKeptTurn old new None = (new ≡ old) × IsUndecided old.kept
IsKeptTurn old new (Some (Line line)) = IsKeptLine old new line
IsKeptTurn old new (Some TooLong) = IsKeptTooLong old new
IsKeptTurn old new (Some End) = ⊥
IsKeptTurn old new (Some Fault) = ⊥

-- what is kept where the source is at its end: the last line, or nothing
abbrev pub IsLastTurn : Reading → Reading → LineTurn → Type 0
IsLastTurn old new (Line line) =
    (line ≡ old.kept) × (line ≢ []) × (new.kept ≡ []) × (new.stuck ≡ false)
IsLastTurn old new End = (old.kept ≡ []) × (new ≡ old)
IsLastTurn old new TooLong = ⊥
IsLastTurn old new Fault = ⊥
