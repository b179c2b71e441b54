-- What a call does to a hold that a watchdog renews.
use Rattle.std.specs.Prelude.{◌≡◌, ◌⊎◌, ℕ, ◌+◌, ◌≤◌, List, true, Option, Some, None}
use Rattle.lr_objects.specs.declared.access.Access.{Access}
use Rattle.lr_objects.specs.declared.access.Access.TheVariants as accesses
use Rattle.lr_objects.specs.declared.fair.FairCall.{FairCall}
use Rattle.lr_objects.specs.declared.fair.FairCall.TheVariants as fair
use Rattle.lr_objects.specs.declared.fenced.FencedCall.{FencedCall}
use Rattle.lr_objects.specs.declared.fenced.FencedCall.TheVariants as fenced
use Rattle.lr_objects.specs.declared.kinds.Call.{Call}
use Rattle.lr_objects.specs.declared.kinds.Call.TheVariants as calls
use Rattle.lr_objects.specs.declared.lock.LockCall.{LockCall}
use Rattle.lr_objects.specs.declared.lock.LockCall.TheVariants as lock
use Rattle.lr_objects.specs.declared.op.Op.{Op}
use Rattle.lr_objects.specs.declared.read_write.ReadWriteCall.{ReadWriteCall}
use Rattle.lr_objects.specs.declared.read_write.ReadWriteCall.TheVariants as read_write
use Rattle.lr_model.specs.Answer.{Objects, reply_of, objects_after}
use Rattle.lr_model.specs.ReadWriteHolds.{AreApart}
use Rattle.lr_model.specs.Tenure.{lease_given}
use Rattle.lr_waiting.specs.declared.watch.WatchKey.{WatchKey}
use Rattle.lr_waiting.specs.declared.watch.WatchKind.{WatchKind}
use Rattle.lr_waiting.specs.declared.watch.WatchKind.TheVariants as watched
use Rattle.lr_waiting.specs.Peak.{gives_deadline}
use Rattle.lr_waiting.specs.Session.{watch_key}
use Rattle.lr_machine.specs.Renewals.{held_until}

-- the hold that a call is about, where it is one of an owner that a watchdog can renew
abbrev pub lock_key : List ℕ → LockCall → Option WatchKey
lock_key name (lock.Try owner lease) = Some (watch_key owner name watched.Lock)
lock_key name (lock.Unlock owner rest) = Some (watch_key owner name watched.Lock)
lock_key name (lock.Renew owner lease) = Some (watch_key owner name watched.Lock)
lock_key name lock.Force = None

abbrev pub fair_key : List ℕ → FairCall → Option WatchKey
fair_key name (fair.Try owner lease queue) = Some (watch_key owner name watched.Fair)
fair_key name (fair.Unlock owner rest) = Some (watch_key owner name watched.Fair)
fair_key name (fair.Renew owner lease) = Some (watch_key owner name watched.Fair)
fair_key name (fair.Leave owner) = None

abbrev pub fenced_key : List ℕ → FencedCall → Option WatchKey
fenced_key name (fenced.Try owner lease) = Some (watch_key owner name watched.Fenced)
fenced_key name (fenced.Unlock owner rest) = Some (watch_key owner name watched.Fenced)
fenced_key name (fenced.Renew owner lease) = Some (watch_key owner name watched.Fenced)
fenced_key name fenced.Token = None

abbrev pub watch_access : Access → WatchKind
watch_access accesses.Read = watched.Read
watch_access accesses.Write = watched.Write

abbrev pub read_write_key : List ℕ → ReadWriteCall → Option WatchKey
read_write_key name (read_write.Take access owner lease) =
    Some (watch_key owner name (watch_access access))
read_write_key name (read_write.Unlock access owner rest) =
    Some (watch_key owner name (watch_access access))
read_write_key name (read_write.Renew access owner lease) =
    Some (watch_key owner name (watch_access access))

abbrev pub call_key : List ℕ → Call → Option WatchKey
call_key name (calls.Lock call) = lock_key name call
call_key name (calls.Fair call) = fair_key name call
call_key name (calls.Fenced call) = fenced_key name call
call_key name (calls.ReadWrite call) = read_write_key name call
call_key name _ = None

abbrev pub op_key : Op → Option WatchKey
op_key op = call_key op.name op.call

-- a call is about this hold, and has given it this deadline
pub record IsGiven (objects : Objects) (moment : ℕ) (op : Op) (key : WatchKey) (deadline : ℕ)
    : Type 0 where
  pub about : op_key op ≡ Some key
  pub lasts : deadline ≡ moment + lease_given op
  pub gives : gives_deadline (reply_of objects moment op) ≡ true

-- Of each read-write lock an owner has one hold with each access, and no two holds conflict. So it
-- is before the first call, and a call leaves it so.
abbrev pub HoldsAreApart : Objects → Type 0
HoldsAreApart objects = (name : List ℕ) → AreApart (objects.read_write_locks name)

abbrev pub HoldsStayApart : Type 0
HoldsStayApart =
    (objects : Objects) (moment : ℕ) (op : Op) → HoldsAreApart objects
    → HoldsAreApart (objects_after objects moment op)

-- A hold that is live after a call, at its moment or later, lasted as long before it, or the call
-- gave it its deadline.
abbrev pub KeepsHolds : Type 0
KeepsHolds =
    (objects : Objects) (moment later : ℕ) (op : Op) (key : WatchKey) (deadline : ℕ)
    → HoldsAreApart objects → moment ≤ later
    → held_until (objects_after objects moment op) key later ≡ Some deadline
    → (held_until objects key moment ≡ Some deadline) ⊎ IsGiven objects moment op key deadline

-- And where the reply gives a deadline, a hold that the call is about has none but that.
abbrev pub GivesDeadlines : Type 0
GivesDeadlines =
    (objects : Objects) (moment later : ℕ) (op : Op) (key : WatchKey) (deadline : ℕ)
    → HoldsAreApart objects
    → op_key op ≡ Some key → gives_deadline (reply_of objects moment op) ≡ true
    → held_until (objects_after objects moment op) key later ≡ Some deadline
    → deadline ≡ moment + lease_given op
