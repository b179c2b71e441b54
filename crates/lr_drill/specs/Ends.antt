-- How a race and a drill may end, and what was written then.
use Rattle.std.specs.Prelude.{◌≡◌, ℕ, List, Option, Bool, true, false}
use Rattle.std.specs.Io.KnownBytes.{Appends}
use Rattle.lr_outside.specs.Turns.{AppendsFront}
use Rattle.lr_outside.specs.declared.status.Status.{Status}
use Rattle.lr_outside.specs.declared.status.Status.TheVariants.{Done, WriteFault, NoMemory}
use Rattle.lr_model.specs.declared.entry.Entry.{Entry}
use Rattle.lr_drill.specs.Race.{IsRace}
use Rattle.lr_drill.specs.Summary.{race_summary}
use Rattle.lr_drill.specs.Drill.{drill_summary}

-- At Done the summary of the history of such a race was written, at WriteFault a front of it, and
-- where memory ran out nothing. There is no other end.
abbrev pub EndsRace : ℕ → ℕ → Option (List ℕ) → Option (List ℕ) → Status → Type 0
EndsRace threads calls old new Done =
    (history : List Entry) × IsRace threads calls history
    × Appends old new (race_summary threads history)
EndsRace threads calls old new WriteFault =
    (history : List Entry) × IsRace threads calls history
    × AppendsFront old new (race_summary threads history)
EndsRace threads calls old new NoMemory = new ≡ old
EndsRace threads calls old new _ = ⊥

-- At Done the summary of the drill was written, at WriteFault a front of it, and where memory ran out
-- nothing. There is no other end.
abbrev pub EndsDrill : ℕ → ℕ → Option (List ℕ) → Option (List ℕ) → Status → Type 0
EndsDrill number events old new Done = Appends old new (drill_summary number events)
EndsDrill number events old new WriteFault = AppendsFront old new (drill_summary number events)
EndsDrill number events old new NoMemory = new ≡ old
EndsDrill number events old new _ = ⊥

-- whether a status tells of a write that failed
abbrev pub is_failed : Status → Bool
is_failed WriteFault = true
is_failed _ = false
