-- What a call on a read-write lock does to the keys.
use Rattle.std.specs.Prelude.{◌≡◌, ℕ, List, nat_lt, Bool, false, not, ◌&&◌, Option, Some, None, Result, Ok, if◌then◌else◌}
use Rattle.std.specs.Str.{bytes_eq}
use Rattle.lr_names.specs.declared.post.Post.{Post}
use Rattle.lr_keys.specs.declared.fault.KeyFault.{KeyFault}
use Rattle.lr_keys.specs.KeySpace.{KeyEntry, Keys, entry_at, live_entry, score_at}
use Rattle.lr_objects.specs.Op.{call_on}
use Rattle.lr_objects.specs.declared.access.Access.{Access}
use Rattle.lr_objects.specs.declared.access.Access.TheVariants.{Read, Write}
use Rattle.lr_objects.specs.declared.kinds.Call.TheVariants.{ReadWrite}
use Rattle.lr_objects.specs.declared.op.Op.{Op}
use Rattle.lr_objects.specs.declared.read_write.ReadWriteCall.{ReadWriteCall}
use Rattle.lr_objects.specs.declared.read_write.ReadWriteCall.TheVariants.{Take, Unlock, Renew}
use Rattle.lr_objects.specs.declared.reply.Reply.{Reply}
use Rattle.lr_objects.specs.declared.reply.Reply.TheVariants.{Freed}
use Rattle.lr_model.specs.Moment.{is_lease}
use Rattle.lr_model.specs.ReadWrite.{ReadWriteLock, LockOutcome, hold_of, rw_post, read, write, give_back, renew}
use Rattle.lr_rw.specs.Holds.{IsLockAt, member_text}
use Rattle.lr_rw.specs.Step.{IsLockStep, IsReady}

-- a call on the lock of this name
abbrev pub read_write_op : List ℕ → ReadWriteCall → Op
read_write_op name call = call_on name (ReadWrite call)

-- the lease that a call gives, or the rest lease
abbrev pub lease_of : ReadWriteCall → ℕ
lease_of (Take access owner lease) = lease
lease_of (Unlock access owner rest) = rest
lease_of (Renew access owner lease) = lease

-- whether a hold lasts beyond a moment, by its score
abbrev pub is_held : ℕ → Result (Option ℕ) KeyFault → Bool
is_held moment (Ok (Some deadline)) = nat_lt moment deadline
is_held moment _ = false

-- whether a call may make a hold, by the sorted set of the deadlines: the owner has none that lasts
abbrev pub lacks_hold : ReadWriteCall → ℕ → Option KeyEntry → Bool
lacks_hold (Take access owner lease) moment deadlines =
    not (is_held moment (score_at (member_text access owner) deadlines))
lacks_hold _ moment deadlines = false

-- only that takes memory
abbrev pub makes_hold : ReadWriteCall → ℕ → Option KeyEntry → Bool
makes_hold call moment deadlines =
    is_lease (lease_of call) && lacks_hold call moment deadlines

-- what a call makes of a lock whose holds are all live, for a lease that is one
abbrev pub live_call : List ℕ → ℕ → ReadWriteCall → ReadWriteLock → LockOutcome
live_call name moment (Take Read owner lease) = read moment owner lease
live_call name moment (Take Write owner lease) = write moment owner lease
live_call name moment (Unlock access owner rest) = give_back name moment owner access rest
live_call name moment (Renew access owner lease) = renew moment owner access lease

-- the message when a hold has ended, by whether one is left
abbrev pub post_if : List ℕ → Access → Bool → Option Post
post_if name Write left = Some (rw_post name)
post_if name Read left = if left then None else Some (rw_post name)

-- the message of a call that was answered so
abbrev pub post_told : List ℕ → ReadWriteCall → Reply → Bool → Option Post
post_told name (Unlock access owner rest) Freed left = post_if name access left
post_told name _ _ left = None

-- At a moment a call on the lock of these two keys was answered so: whatever lock the keys had, the
-- reply is the right one, and they have what becomes of it. All other keys hold what is live of
-- them.
pub record IsLockRun (old new : Keys) (counts deadlines : List ℕ) (moment : ℕ) (reply : Reply)
    (outcome : ReadWriteLock → LockOutcome) : Type 0 where
  pub step : (lock : ReadWriteLock) → IsLockAt old counts deadlines lock
      → IsLockStep new counts deadlines reply (outcome lock)
  pub others : (key : List ℕ) → bytes_eq counts key ≡ false → bytes_eq deadlines key ≡ false
      → entry_at new key ≡ live_entry moment (entry_at old key)
  pub now : new.moment ≡ moment

-- a call takes the lock, and its owner has no such hold
abbrev pub LacksHold : ReadWriteCall → ReadWriteLock → Type 0
LacksHold (Take access owner lease) lock = hold_of owner access lock ≡ None
LacksHold _ lock = ⊥

-- memory was taken for the hold that a call may make
abbrev pub IsReadyFor : ReadWriteCall → Keys → List ℕ → List ℕ → Type 0
IsReadyFor (Take access owner lease) keys counts deadlines =
    IsReady keys counts deadlines (member_text access owner)
IsReadyFor _ keys counts deadlines = Unit {0}
