-- How a run of a schedule may end, and what was written then.
use Rattle.std.specs.Prelude.{◌≡◌, ◌⊎◌, ℕ, ◌+◌, Bool, true, false, List, [], ◌∷◌, ◌++◌, length, codes, flat_map, Option, Some}
use Rattle.lr_outside.specs.Lines.{lines_of, HasNoLineEnd}
use Rattle.lr_outside.specs.declared.status.Status.{Status}
use Rattle.lr_outside.specs.declared.status.Status.TheVariants.{Done, Usage, ReadFault, WriteFault, BadLine, NoMemory, TooMany, Wrong, Closed}
use Rattle.lr_machine.specs.declared.event.Event.{Event}
use Rattle.lr_machine.specs.declared.schedule_line.ScheduleLine.{ScheduleLine}
use Rattle.lr_machine.specs.declared.schedule_line.ScheduleLine.TheVariants as kinds
use Rattle.lr_machine.specs.Renewals.{RenewsInTime}
use Rattle.lr_machine.specs.Sound.{GoesWellThroughout}
use Rattle.lr_machine.specs.Transcript.{IsLine, AreLinesOf, transcript, bad_line, too_many_line}
use Rattle.lr_machine.specs.World.{first_world}
use Rattle.lr_machine_wakeups.specs.Throughout.{NoWakeupIsLost, Throughout}

-- the command has the one word `play`
abbrev pub IsPlay : List (List ℕ) → Type 0
IsPlay words = words ≡ codes "play" ∷ []

-- these lines as they stand in a schedule, each with the LF that ends it
abbrev pub lines_with_ends : List (List ℕ) → List ℕ
lines_with_ends lines = flat_map (λ line. line ++ 10 ∷ []) lines

-- what a schedule of these events shows
abbrev pub shown_of : List Event → List ℕ
shown_of events = transcript first_world 1 events

-- The lines are the texts of the events of the run. After each of them it went well, no wakeup was
-- lost, and each watched hold that is live falls due in time.
pub record IsRun (lines : List (List ℕ)) (events : List Event) : Type 0 where
  pub texts : AreLinesOf 1 lines events
  pub well : GoesWellThroughout events
  pub awake : Throughout (λ n world. NoWakeupIsLost world) events
  pub renews : Throughout (λ n world. RenewsInTime world) events

-- The whole schedule was read, each line of it is an event, and all that they show was written.
pub record RanThrough (all rest before held : List ℕ) : Type 0 where
  pub read : rest ≡ []
  pub events : List Event
  pub run : IsRun (lines_of all) events
  pub written : held ≡ before ++ shown_of events

-- Line number is the first that is no event, and is of this kind. What the events before it show was written, and then
-- that the line was refused.
pub record StoppedAt (number : ℕ) (kind : ScheduleLine) (refusal : List ℕ) (all before held : List ℕ) : Type 0 where
  pub earlier : List (List ℕ)
  pub line : List ℕ
  pub later : List (List ℕ)
  pub lines : lines_of all ≡ earlier ++ line ∷ later
  pub place : number ≡ length earlier + 1
  pub here : IsLine number line kind
  pub events : List Event
  pub run : IsRun earlier events
  pub written : held ≡ before ++ shown_of events ++ refusal

-- The bytes read so far are these whole lines and no whole line more. A last line without LF is whole where nothing
-- is left after it.
abbrev pub AreWhole : List ℕ → List ℕ → List (List ℕ) → Type 0
AreWhole all rest lines =
    ((more : List ℕ) × (all ≡ lines_with_ends lines ++ more ++ rest) × HasNoLineEnd more)
    ⊎ ((rest ≡ []) × (lines ≡ lines_of all))

-- Each whole line that was read is an event, and what they show was written.
pub record BrokeOff (all rest before held : List ℕ) : Type 0 where
  pub lines : List (List ℕ)
  pub whole : AreWhole all rest lines
  pub events : List Event
  pub run : IsRun lines events
  pub written : held ≡ before ++ shown_of events

-- The bytes read begin with these whole lines.
abbrev pub WereRead : List ℕ → List ℕ → List (List ℕ) → Type 0
WereRead all rest lines =
    ((more : List ℕ) × (all ≡ lines_with_ends lines ++ more ++ rest)) ⊎ ((rest ≡ []) × (lines ≡ lines_of all))

-- these whole lines were read, each is an event, and this is what they show
pub record ShowsEvents (all rest : List ℕ) (lines : List (List ℕ)) (text : List ℕ) : Type 0 where
  pub read : WereRead all rest lines
  pub events : List Event
  pub run : IsRun lines events
  pub shown : text ≡ shown_of events

-- the last of these lines is no event, the others are, and this is what they show and that the last was refused
pub record ShowsRefusal (lines : List (List ℕ)) (text : List ℕ) : Type 0 where
  pub earlier : List (List ℕ)
  pub line : List ℕ
  pub split : lines ≡ earlier ++ line ∷ []
  pub events : List Event
  pub run : IsRun earlier events
  pub refusal : List ℕ
  pub shown : text ≡ shown_of events ++ refusal
  pub refused : (IsLine (length earlier + 1) line kinds.Bad × (refusal ≡ bad_line (length earlier + 1)))
      ⊎ (IsLine (length earlier + 1) line kinds.TooMany × (refusal ≡ too_many_line (length earlier + 1)))

-- A front was written of what some lines show with which the schedule begins: whole lines that were read, or the lines
-- up to the first that is no event.
pub record WrittenInPart (all rest before held : List ℕ) : Type 0 where
  pub lines : List (List ℕ)
  pub later : List (List ℕ)
  pub first : lines_of all ≡ lines ++ later
  pub text : List ℕ
  pub shown : ShowsEvents all rest lines text ⊎ ShowsRefusal lines text
  pub front : List ℕ
  pub unwritten : List ℕ
  pub cut : text ≡ front ++ unwritten
  pub written : held ≡ before ++ front

-- what is known at each end
abbrev pub EndsSo : Status → List ℕ → List ℕ → List ℕ → List ℕ → Type 0
EndsSo Done all rest before held = RanThrough all rest before held
EndsSo (BadLine number) all rest before held = StoppedAt number kinds.Bad (bad_line number) all before held
EndsSo (TooMany number) all rest before held = StoppedAt number kinds.TooMany (too_many_line number) all before held
EndsSo ReadFault all rest before held = BrokeOff all rest before held
EndsSo WriteFault all rest before held = WrittenInPart all rest before held
EndsSo NoMemory all rest before held = WrittenInPart all rest before held
EndsSo Usage all rest before held = ⊥
EndsSo (Wrong number) all rest before held = ⊥
EndsSo Closed all rest before held = ⊥

-- whether a status tells of a read that failed
abbrev pub is_read_fault : Status → Bool
is_read_fault ReadFault = true
is_read_fault _ = false

-- whether it tells of a write that failed
abbrev pub is_write_fault : Status → Bool
is_write_fault WriteFault = true
is_write_fault _ = false

-- Where the source tells what it has left and the sink what it holds: all, rest, before and held are these bytes before
-- and after the run.
abbrev pub WhereTold : Option (List ℕ) → Option (List ℕ) → Option (List ℕ) → Option (List ℕ) → (List ℕ → List ℕ → List ℕ → List ℕ → Type 0) → Type 0
WhereTold left_old left_new held_old held_new P =
    (all before : List ℕ) → left_old ≡ Some all → held_old ≡ Some before
    → (rest held : List ℕ) × (left_new ≡ Some rest) × (held_new ≡ Some held) × P all rest before held

-- the ends of a run
abbrev pub IsEndOfRun : Status → Type 0
IsEndOfRun Usage = ⊥
IsEndOfRun (Wrong number) = ⊥
IsEndOfRun Closed = ⊥
IsEndOfRun _ = Unit {0}

-- the ends of `play`
abbrev pub IsEndOfPlay : Status → Type 0
IsEndOfPlay Usage = Unit {0}
IsEndOfPlay status = IsEndOfRun status
