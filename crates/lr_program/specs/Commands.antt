-- The words of the command line that are commands, and what is known after a text was to be
-- written: this project's own.
use Rattle.std.specs.Prelude.{◌≡◌, ◌<◌, ◌≤◌, ◌^◌, ℕ, List, [], ◌∷◌, codes, decimal, Option}
use Rattle.std.specs.Io.KnownBytes.{Appends}
use Rattle.lr_limits.specs.Limits.{event_limit}
use Rattle.lr_outside.specs.Turns.{AppendsFront}
use Rattle.lr_outside.specs.declared.status.Status.{Status}
use Rattle.lr_outside.specs.declared.status.Status.TheVariants.{Done, WriteFault}
use Rattle.lr_play.specs.Ends.{IsPlay}
use Rattle.lr_drill.specs.Race.{IsRaceSize}

-- the one word `--help`
abbrev pub IsHelp : List (List ℕ) → Type 0
IsHelp words = words ≡ codes "--help" ∷ []

-- the one word `--version`
abbrev pub IsVersion : List (List ℕ) → Type 0
IsVersion words = words ≡ codes "--version" ∷ []

-- the word `race`, and then how many threads there are and how many calls each makes
pub record IsRaceOf (words : List (List ℕ)) (threads calls : ℕ) : Type 0 where
  pub text : words ≡ codes "race" ∷ decimal threads ∷ decimal calls ∷ []
  pub size : IsRaceSize threads calls

-- the words of no race
abbrev pub AreNoRace : List (List ℕ) → Type 0
AreNoRace words = (threads calls : ℕ) → ¬ (IsRaceOf words threads calls)

-- the word `drill`, and then the number from which events are drawn and how many there are
pub record IsDrillOf (words : List (List ℕ)) (number events : ℕ) : Type 0 where
  pub text : words ≡ codes "drill" ∷ decimal number ∷ decimal events ∷ []
  pub fits : number < 2 ^ 64
  pub size : events ≤ event_limit

-- the words of no drill
abbrev pub AreNoDrill : List (List ℕ) → Type 0
AreNoDrill words = (number events : ℕ) → ¬ (IsDrillOf words number events)

-- none of the commands that there are
abbrev pub AreNoCommand : List (List ℕ) → Type 0
AreNoCommand words =
    ¬ (IsHelp words) × ¬ (IsVersion words) × ¬ (IsPlay words) × AreNoRace words
    × AreNoDrill words

-- At Done all of a text was written, and at WriteFault a front of it. There is no other end.
abbrev pub IsShown : Option (List ℕ) → Option (List ℕ) → List ℕ → Status → Type 0
IsShown old new text Done = Appends old new text
IsShown old new text WriteFault = AppendsFront old new text
IsShown old new text _ = ⊥
