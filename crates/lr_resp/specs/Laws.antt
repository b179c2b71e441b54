-- Reading is the grammar, in both directions.
use Rattle.std.specs.Prelude.{◌≡◌, ◌≢◌, ℕ, ◌≤◌, List, [], ◌∷◌, ◌++◌, length}
use Rattle.lr_resp.specs.declared.frame.Frame.{Frame}
use Rattle.lr_resp.specs.declared.cause.Cause.{Cause}
use Rattle.lr_resp.specs.Limits.{frame_limit}
use Rattle.lr_resp.specs.Spelling.{spelling}
use Rattle.lr_resp.specs.Grammar.{IsReadable, Spells, SpellsWritten}
use Rattle.lr_resp.specs.Spelled.{spelled}
use Rattle.lr_resp.specs.Scan.{State}
use Rattle.lr_resp.specs.Stream.{IsReached, read, Part, Whole, Broken}
use Rattle.lr_resp.specs.Causes.{HasCause}

-- these bytes begin a frame that is within the limits for reading, but perhaps for its size
abbrev pub BeginsFrame : List ℕ → Type 0
BeginsFrame bytes =
    (more : List ℕ) × (frame : Frame) × IsReadable frame × (bytes ++ more ≡ spelling frame)

-- A frame is read exactly where it is spelled, whatever follows.

abbrev pub WholeIsSpelled : Type 0
WholeIsSpelled = (bytes rest : List ℕ) (frame : Frame) → read bytes ≡ Whole frame rest
    → Spells (spelling frame) frame × (bytes ≡ spelling frame ++ rest)

abbrev pub SpelledIsWhole : Type 0
SpelledIsWhole = (bytes rest : List ℕ) (frame : Frame) → Spells bytes frame
    → read (bytes ++ rest) ≡ Whole frame rest

-- Less than a frame is read exactly where a frame begins so, and isn't there yet.

abbrev pub PartBegins : Type 0
PartBegins = (bytes : List ℕ) → read bytes ≡ Part
    → (length bytes ≤ frame_limit) × BeginsFrame bytes

abbrev pub BeginsPart : Type 0
BeginsPart = (bytes more : List ℕ) (frame : Frame) → length bytes ≤ frame_limit
    → IsReadable frame → bytes ++ more ≡ spelling frame → more ≢ [] → read bytes ≡ Part

-- these bytes are broken at a byte, with these before it and these behind it
abbrev pub IsBrokenAt : List ℕ → ℕ → List ℕ → ℕ → List ℕ → Type 0
IsBrokenAt bytes place before byte rest =
    (bytes ≡ before ++ byte ∷ rest) × (place ≡ length before)

-- A fault stands at the first byte with which no frame begins, or it is one byte too many.
abbrev pub BrokenIsFirst : Type 0
BrokenIsFirst = (bytes : List ℕ) (place : ℕ) (cause : Cause) → read bytes ≡ Broken place cause
    → (before : List ℕ) × (byte : ℕ) × (rest : List ℕ)
    × IsBrokenAt bytes place before byte rest × (place ≤ frame_limit)
    × BeginsFrame before × (place ≢ frame_limit → ¬ BeginsFrame (before ++ byte ∷ []))

-- Its cause is the one that the table has for the byte, by where reading stands behind those before
-- it.
abbrev pub CauseIsFirst : Type 0
CauseIsFirst = (bytes : List ℕ) (place : ℕ) (cause : Cause) → read bytes ≡ Broken place cause
    → (before : List ℕ) × (byte : ℕ) × (rest : List ℕ) × (state : State)
    × IsBrokenAt bytes place before byte rest × (spelled state ≡ before)
    × IsReached place state × HasCause cause place state byte

-- What was read stays read, and a fault stays a fault, whatever follows.

abbrev pub WholeStays : Type 0
WholeStays = (bytes more rest : List ℕ) (frame : Frame) → read bytes ≡ Whole frame rest
    → read (bytes ++ more) ≡ Whole frame (rest ++ more)

abbrev pub BrokenStays : Type 0
BrokenStays = (bytes more : List ℕ) (place : ℕ) (cause : Cause) → read bytes ≡ Broken place cause
    → read (bytes ++ more) ≡ Broken place cause

-- No bytes begin with two frames.

abbrev pub WrittenIsOne : Type 0
WrittenIsOne = (bytes others more rest : List ℕ) (frame other : Frame)
    → SpellsWritten bytes frame → SpellsWritten others other → bytes ++ more ≡ others ++ rest
    → (frame ≡ other) × (more ≡ rest)

abbrev pub ReadIsOne : Type 0
ReadIsOne = (frame other : Frame) (more rest : List ℕ) → IsReadable frame → IsReadable other
    → spelling frame ++ more ≡ spelling other ++ rest → (frame ≡ other) × (more ≡ rest)
