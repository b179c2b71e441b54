-- Live holds end by the peak: of a lock that one owner holds at a time, and whose message wakes one
-- of many.
use Rattle.std.specs.Prelude.{◌≡◌, ℕ, ◌+◌, ◌≤◌, List, true}
use Rattle.lr_names.specs.declared.kind.Kind.{Kind}
use Rattle.lr_objects.specs.Op.{kind_of, name_of}
use Rattle.lr_objects.specs.declared.op.Op.{Op}
use Rattle.lr_objects.specs.declared.reply.Reply.TheVariants.{Busy}
use Rattle.lr_model.specs.declared.entry.Entry.{Entry}
use Rattle.lr_model.specs.Answer.{reply_of}
use Rattle.lr_model.specs.History.{State, after}
use Rattle.lr_waiting.specs.Peak.{live_until, peak_after}
use Rattle.lr_wakeups.specs.Standing.{wakes_one_of_many}

-- from the last entry's moment on, no live hold of a lock whose messages wake one lasts longer than
-- the peak
abbrev pub EndByThePeak : State → List Entry → Type 0
EndByThePeak first entries =
    (kind : Kind) (name : List ℕ) (moment : ℕ) → wakes_one_of_many kind ≡ true
    → (after first entries).moment ≤ moment
    → live_until (after first entries).objects kind name moment ≤ peak_after kind name first entries 0

-- so a call that is refused then is told to wait until the peak at most
abbrev pub RefusedUntilThePeak : State → List Entry → Type 0
RefusedUntilThePeak first entries =
    (op : Op) (moment millis : ℕ) → wakes_one_of_many (kind_of op) ≡ true
    → (after first entries).moment ≤ moment
    → reply_of (after first entries).objects moment op ≡ Busy millis
    → moment + millis ≤ peak_after (kind_of op) (name_of op) first entries 0
