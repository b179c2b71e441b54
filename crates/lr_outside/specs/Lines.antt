-- Lines of bytes, and what one turn of a reader of lines gives.
use Rattle.std.specs.Prelude.{◌≡◌, ◌≢◌, ◌⊎◌, ◌==◌, if◌then◌else◌, Bool, true, false, ℕ, ◌<◌, ◌≤◌, List, [], ◌∷◌, ◌++◌, length, ⊤, Option, Some, None, All}
use Rattle.std.specs.Io.KnownBytes.{prepend_known}
use Rattle.lr_outside.specs.Turns.{Rose}
use Rattle.lr_limits.specs.Limits.{line_limit}
use Rattle.lr_outside.specs.declared.line_reader.LineTurn.{LineTurn}
use Rattle.lr_outside.specs.declared.line_reader.LineTurn.TheVariants.{Line, End, TooLong, Fault}

-- these lines, where one more byte stands before the first of them
abbrev pub with_first : ℕ → List (List ℕ) → List (List ℕ)
with_first b [] = (b ∷ []) ∷ []
with_first b (l ∷ ls) = (b ∷ l) ∷ ls

-- The lines of a text. Each ends at LF, the byte 10, which isn't part of it. A last line without LF
-- counts, and no bytes at the end are no line.
abbrev pub lines_of : List ℕ → List (List ℕ)
lines_of [] = []
lines_of (b ∷ bs) = if b == 10 then [] ∷ lines_of bs else with_first b (lines_of bs)

-- no LF is among the bytes
abbrev pub HasNoLineEnd : List ℕ → Type 0
HasNoLineEnd bs = All (λ b. b ≢ 10) bs

-- The line is the first of what was ahead, and just it and its LF are gone. Only the last line
-- lacks its LF.
pub record IsFirstLine (before after line : List ℕ) : Type 0 where
  pub lines : lines_of before ≡ line ∷ lines_of after
  pub bytes : (before ≡ line ++ 10 ∷ after) ⊎ ((before ≡ line) × (after ≡ []) × (line ≢ []))
  pub whole : HasNoLineEnd line
  pub fits : length line ≤ line_limit

-- the first line has more bytes than a line may have
pub record BeginsTooLong (before : List ℕ) : Type 0 where
  pub line : List ℕ
  pub others : List (List ℕ)
  pub lines : lines_of before ≡ line ∷ others
  pub long : line_limit < length line

-- What each turn says of the bytes ahead before it and after it. A fault and a line that is too
-- long take none away.
abbrev pub IsTurn : List ℕ → List ℕ → LineTurn → Type 0
IsTurn before after (Line line) = IsFirstLine before after line
IsTurn before after End = (before ≡ []) × (after ≡ [])
IsTurn before after TooLong = BeginsTooLong before × (after ≡ before)
IsTurn before after Fault = after ≡ before

-- the bytes ahead of a reader, where the source tells what it has left: those that are kept, and
-- then those
abbrev pub ahead : List ℕ → Option (List ℕ) → Option (List ℕ)
ahead kept left = prepend_known kept left

-- a relation of the bytes before and after, where they are known
abbrev pub WhereKnown : (List ℕ → List ℕ → Type 0) → Option (List ℕ) → Option (List ℕ) → Type 0
WhereKnown R None new = ⊤
WhereKnown R (Some xs) None = ⊥
WhereKnown R (Some xs) (Some ys) = R xs ys

-- the bytes alone don't tell their first line, nor that it is too long: another read is due
pub record IsUndecided (kept : List ℕ) : Type 0 where
  pub whole : HasNoLineEnd kept
  pub fits : length kept ≤ line_limit

-- whether a turn is a fault
abbrev pub is_fault : LineTurn → Bool
is_fault Fault = true
is_fault (Line line) = false
is_fault End = false
is_fault TooLong = false

-- a fault comes only where the source's count of faults rose and the bytes read so far don't tell
-- the answer
abbrev pub FaultHasCause : ℕ → ℕ → List ℕ → LineTurn → Type 0
FaultHasCause before now kept Fault = Rose before now × IsUndecided kept
FaultHasCause before now kept (Line _) = ⊤
FaultHasCause before now kept End = ⊤
FaultHasCause before now kept TooLong = ⊤
