-- What a call on a fenced lock does to the keys.
use Rattle.std.specs.Prelude.{◌≡◌, ℕ, List, Bool, false, ◌&&◌, ◌||◌, is_none, Option}
use Rattle.lr_names.specs.Key.{keys_of}
use Rattle.lr_names.specs.declared.kind.Kind.TheVariants.{Fenced}
use Rattle.lr_keys.specs.KeySpace.{KeyEntry, Keys, OthersAreLive}
use Rattle.lr_objects.specs.Op.{call_on}
use Rattle.lr_objects.specs.declared.fenced.FencedCall.{FencedCall}
use Rattle.lr_objects.specs.declared.fenced.FencedCall.TheVariants.{Try}
use Rattle.lr_objects.specs.declared.kinds.Call.TheVariants.{Fenced as calls}
use Rattle.lr_objects.specs.declared.op.Op.{Op}
use Rattle.lr_objects.specs.declared.reply.Reply.{Reply}
use Rattle.lr_model.specs.Fenced.{FencedLock}
use Rattle.lr_model.specs.Answer.{Objects, Answered, on_object}
use Rattle.lr_model.specs.Moment.{is_lease}
use Rattle.lr_model.specs.Outcome.{Outcome}
use Rattle.lr_fenced.specs.Stands.{FencedLocksStand}

-- a call on the lock of this name
abbrev pub fenced_op : List ℕ → FencedCall → Op
fenced_op name call = call_on name (calls call)

-- the answer of a function of the lock of this name
abbrev pub on_fenced_lock : Objects → List ℕ → (FencedLock → Outcome FencedLock) → Answered
on_fenced_lock objects name function =
    on_object objects.fenced_locks (λ table. record objects { fenced_locks = table }) name function

-- At a moment a call on the lock of this name was answered so: for all objects for which the keys
-- stood, the reply is the right one, and they stand for what becomes of these. All other keys hold
-- what is live of them.
pub record IsRun (old new : Keys) (moment : ℕ) (name : List ℕ) (reply : Reply)
    (answered : Objects → Answered) : Type 0 where
  pub answer : (objects : Objects) → FencedLocksStand old objects
      → reply ≡ (answered objects).reply
  pub stands : (objects : Objects) → FencedLocksStand old objects
      → FencedLocksStand new (answered objects).objects
  pub frame : OthersAreLive (keys_of Fenced name) old new
  pub now : new.moment ≡ moment

-- whether a call makes a key of its lock, where these are there: only that takes memory
abbrev pub makes_key : FencedCall → Option KeyEntry → Option KeyEntry → Bool
makes_key (Try owner lease) hash counter =
    is_lease lease && (is_none hash || is_none counter)
makes_key _ hash counter = false
