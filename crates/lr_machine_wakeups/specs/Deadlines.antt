-- What the peak of a lock promises of its holders.
use Rattle.std.specs.Prelude.{ℕ, ◌≤◌, List}
use Rattle.lr_names.specs.declared.kind.Kind.{Kind}
use Rattle.lr_model.specs.declared.entry.Entry.{Entry}
use Rattle.lr_model.specs.Answer.{Objects}
use Rattle.lr_model.specs.History.{after, IsLegal}
use Rattle.lr_waiting.specs.Peak.{live_until, peak_after}
use Rattle.lr_machine.specs.World.{first_state}

-- from this moment on no hold of an object that is live lasts beyond the peak
abbrev pub IsBelow : Objects → Kind → List ℕ → ℕ → ℕ → Type 0
IsBelow objects kind name moment peak =
    (later : ℕ) → moment ≤ later → live_until objects kind name later ≤ peak

-- after every legal history, of each object
abbrev pub LiveDeadlinesStayBelowThePeak : Type 0
LiveDeadlinesStayBelowThePeak =
    (entries : List Entry) (kind : Kind) (name : List ℕ) → IsLegal first_state entries
    → IsBelow (after first_state entries).objects kind name (after first_state entries).moment
    (peak_after kind name first_state entries 0)
