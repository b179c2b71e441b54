-- What a call on a lock does to the keys.
use Rattle.std.specs.Prelude.{◌≡◌, ℕ, List, Bool, false, ◌&&◌, is_none, Option}
use Rattle.lr_names.specs.Key.{keys_of}
use Rattle.lr_names.specs.declared.kind.Kind.TheVariants.{Mutex}
use Rattle.lr_keys.specs.KeySpace.{KeyEntry, Keys, OthersAreLive}
use Rattle.lr_objects.specs.Op.{call_on}
use Rattle.lr_objects.specs.declared.lock.LockCall.{LockCall}
use Rattle.lr_objects.specs.declared.lock.LockCall.TheVariants.{Try}
use Rattle.lr_objects.specs.declared.kinds.Call.TheVariants.{Lock as calls}
use Rattle.lr_objects.specs.declared.op.Op.{Op}
use Rattle.lr_objects.specs.declared.reply.Reply.{Reply}
use Rattle.lr_model.specs.declared.hold.Hold.{Hold}
use Rattle.lr_model.specs.Answer.{Objects, Answered, on_object}
use Rattle.lr_model.specs.Moment.{is_lease}
use Rattle.lr_model.specs.Outcome.{Outcome}
use Rattle.lr_mutex.specs.Stands.{MutexesStand}

-- a call on the lock of this name
abbrev pub lock_op : List ℕ → LockCall → Op
lock_op name call = call_on name (calls call)

-- the answer of a function of the lock of this name
abbrev pub on_mutex : Objects → List ℕ → (Option Hold → Outcome (Option Hold)) → Answered
on_mutex objects name function =
    on_object objects.mutexes (λ table. record objects { mutexes = table }) name function

-- At a moment a call on the lock of this name was answered so: for all objects for which the keys
-- stood, the reply is the right one, and they stand for what becomes of these. All other keys hold
-- what is live of them.
pub record IsRun (old new : Keys) (moment : ℕ) (name : List ℕ) (reply : Reply)
    (answered : Objects → Answered) : Type 0 where
  pub answer : (objects : Objects) → MutexesStand old objects → reply ≡ (answered objects).reply
  pub stands : (objects : Objects) → MutexesStand old objects
      → MutexesStand new (answered objects).objects
  pub frame : OthersAreLive (keys_of Mutex name) old new
  pub now : new.moment ≡ moment

-- whether a call makes the key of its lock where this is there: only that takes memory
abbrev pub makes_key : LockCall → Option KeyEntry → Bool
makes_key (Try owner lease) entry = is_lease lease && is_none entry
makes_key _ entry = false
