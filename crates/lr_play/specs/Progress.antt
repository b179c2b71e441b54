-- How far a run of a schedule has come.
use Rattle.std.specs.Prelude.{◌≡◌, ◌⊎◌, ℕ, ◌+◌, List, [], ◌++◌, length, Option, Some, None}
use Rattle.std.specs.Io.KnownBytes.{Appends}
use Rattle.lr_outside.specs.Lines.{lines_of, ahead}
use Rattle.lr_outside.specs.Turns.{AppendsFront}
use Rattle.lr_outside.specs.declared.status.Status.{Status}
use Rattle.lr_outside.specs.declared.status.Status.TheVariants.{WriteFault, BadLine, NoMemory, TooMany}
use Rattle.lr_machine.specs.declared.event.Event.{Event}
use Rattle.lr_machine.specs.declared.schedule_line.ScheduleLine.{ScheduleLine}
use Rattle.lr_machine.specs.declared.schedule_line.ScheduleLine.TheVariants as kinds
use Rattle.lr_machine.specs.Transcript.{AreLinesOf, shown_line, bad_line, too_many_line}
use Rattle.lr_machine.specs.Shown.{shown}
use Rattle.lr_machine.specs.World.{World, first_world, world_after, next}
use Rattle.lr_play.specs.Ends.{lines_with_ends, shown_of, EndsSo}

-- Some lines were taken from all bytes, each is an event, the world is the one to which they lead, and what they show was
-- written. The lines from here on are those of the bytes that are left.
pub record Progress (all before left held : List ℕ) (number : ℕ) (world : World) : Type 0 where
  pub taken : List (List ℕ)
  pub events : List Event
  pub texts : AreLinesOf 1 taken events
  pub lines : lines_of all ≡ taken ++ lines_of left
  pub count : number ≡ length taken + 1
  pub world_is : world ≡ world_after first_world events
  pub holds : held ≡ before ++ shown_of events
  pub cut : (all ≡ lines_with_ends taken ++ left) ⊎ (left ≡ [])

-- the same where the source and the sink tell: kept is what the reader of lines keeps
pub record IsAt (kept : List ℕ) (left held : Option (List ℕ)) (all before : List ℕ) (number : ℕ) (world : World) : Type 0 where
  pub bytes : List ℕ
  pub bytes_are : ahead kept left ≡ Some bytes
  pub text : List ℕ
  pub text_is : held ≡ Some text
  pub progress : Progress all before bytes text number world

-- a status with what is known of it
pub record Ends (status : Status) (left held : Option (List ℕ)) (all before : List ℕ) : Type 0 where
  pub rest : List ℕ
  pub rest_is : left ≡ Some rest
  pub text : List ℕ
  pub text_is : held ≡ Some text
  pub so : EndsSo status all rest before text

-- what is written for a line
abbrev pub text_of : World → ℕ → ScheduleLine → List ℕ
text_of world number (kinds.Event event) = shown_line number (shown world event)
text_of world number kinds.Bad = bad_line number
text_of world number kinds.TooMany = too_many_line number

-- the world after a line
abbrev pub world_after_line : World → ScheduleLine → World
world_after_line world (kinds.Event event) = next world event
world_after_line world _ = world

-- What was written of a line's text, by how the line ended the run, if it did.
abbrev pub Told : World → ℕ → ScheduleLine → Option (List ℕ) → Option (List ℕ) → Option Status → Type 0
Told world number kind old new None =
    ((event : Event) × (kind ≡ kinds.Event event)) × Appends old new (text_of world number kind)
Told world number kind old new (Some (BadLine n)) =
    (kind ≡ kinds.Bad) × (n ≡ number) × Appends old new (text_of world number kind)
Told world number kind old new (Some (TooMany n)) =
    (kind ≡ kinds.TooMany) × (n ≡ number) × Appends old new (text_of world number kind)
Told world number kind old new (Some WriteFault) = AppendsFront old new (text_of world number kind)
Told world number kind old new (Some NoMemory) = AppendsFront old new (text_of world number kind)
Told world number kind old new (Some _) = ⊥

-- the same of a line that is no event, whose text doesn't depend on the world
abbrev pub ToldAnyhow : ℕ → ScheduleLine → Option (List ℕ) → Option (List ℕ) → Status → Type 0
ToldAnyhow number kind old new status = (world : World) → Told world number kind old new (Some status)
