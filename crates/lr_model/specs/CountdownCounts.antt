-- The counts of countdown latches, told from the replies alone. Nothing here looks at what the
-- server keeps.
use Rattle.std.specs.Prelude.{◌≡◌, ℕ, ◌+◌, ◌-◌, List, ◌∷◌, ◌++◌, if◌then◌else◌}
use Rattle.std.specs.Str.{bytes_eq}
use Rattle.lr_objects.specs.declared.kinds.Call.{Call}
use Rattle.lr_objects.specs.declared.kinds.Call.TheVariants.{Countdown}
use Rattle.lr_objects.specs.declared.countdown.CountdownCall.TheVariants as calls
use Rattle.lr_objects.specs.declared.op.Op.{Op}
use Rattle.lr_objects.specs.declared.reply.Reply.{Reply}
use Rattle.lr_objects.specs.declared.reply.Reply.TheVariants.{Set, Count}
use Rattle.lr_objects.specs.Op.{call_on}
use Rattle.lr_model.specs.declared.entry.Entry.{Entry}
use Rattle.lr_model.specs.History.{State}
use Rattle.lr_model.specs.Told.{told_after, IsAnswered}

-- the number to which a latch was set last, and how many times it was counted down since
pub record LatchSums : Type 0 where
  pub number : ℕ
  pub downs : ℕ

-- before the first call
abbrev pub not_set : LatchSums
not_set = record { number = 0; downs = 0 }

-- the sums of a latch after a reply to a call
abbrev pub latch_by_call : List ℕ → List ℕ → Call → Reply → LatchSums → LatchSums
latch_by_call name key (Countdown (calls.Set number)) Set sums =
    if bytes_eq name key then record { number = number; downs = 0 } else sums
latch_by_call name key (Countdown calls.Down) (Count count) sums =
    if bytes_eq name key then record sums { downs = sums.downs + 1 } else sums
latch_by_call name key _ _ sums = sums

abbrev pub latch_by_reply : List ℕ → Op → Reply → LatchSums → LatchSums
latch_by_reply name op reply sums = latch_by_call name op.name op.call reply sums

-- the sums of a latch after a history
abbrev pub latch_after : State → List Entry → List ℕ → LatchSums
latch_after first entries name = told_after (latch_by_reply name) first entries not_set

-- what is left of a latch after a history: the number that was set less the downs since, and never
-- below 0
abbrev pub left_after : State → List Entry → List ℕ → ℕ
left_after first entries name =
    (latch_after first entries name).number - (latch_after first entries name).downs

-- each count of a latch that was answered is what was left of it, and one less where it was counted
-- down
pub record CountsDown (first : State) (entries : List Entry) : Type 0 where
  pub counts : (earlier later : List Entry) (entry : Entry) (name : List ℕ) (count : ℕ)
      → entries ≡ earlier ++ entry ∷ later
      → IsAnswered first earlier entry (call_on name (Countdown calls.Count)) (Count count)
      → count ≡ left_after first earlier name
  pub downs : (earlier later : List Entry) (entry : Entry) (name : List ℕ) (count : ℕ)
      → entries ≡ earlier ++ entry ∷ later
      → IsAnswered first earlier entry (call_on name (Countdown calls.Down)) (Count count)
      → count ≡ left_after first earlier name - 1
