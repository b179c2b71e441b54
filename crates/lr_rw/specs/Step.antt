-- What a step does to the two keys of one read-write lock, at the moment of the keys.
use Rattle.std.specs.Prelude.{◌≡◌, ◌≤◌, ◌<◌, ℕ, ℤ, pos, ◌+ℤ◌, List, [], ◌∷◌, length, false, Option, Some, None}
use Rattle.std.specs.List.{AllByRecursion}
use Rattle.std.specs.Str.{bytes_eq}
use Rattle.lr_limits.specs.Limits.{hold_limit, member_limit}
use Rattle.lr_names.specs.Owner.{ThreadOfClient, IsOwner}
use Rattle.lr_keys.specs.declared.value_kind.ValueKind.TheVariants.{Hash, Zset}
use Rattle.lr_keys.specs.KeySpace.{Keys, IsPrepared, entry_at}
use Rattle.lr_objects.specs.declared.access.Access.{Access}
use Rattle.lr_objects.specs.declared.reply.Reply.{Reply}
use Rattle.lr_objects.specs.declared.reply.Reply.TheVariants.{Granted}
use Rattle.lr_model.specs.declared.read_write_hold.ReadWriteHold.{ReadWriteHold}
use Rattle.lr_model.specs.ReadWrite.{ReadWriteLock, LockOutcome, hold_of, last_deadline, live_holds, holding_so, first_hold, take_again}
use Rattle.lr_model.specs.ReadWriteHolds.{MayStandBeside}
use Rattle.lr_rw.specs.Holds.{IsLockAt, member_of}

-- the step was answered as the outcome says, and the keys have the outcome's lock now
pub record IsLockStep (new : Keys) (counts deadlines : List ℕ) (reply : Reply)
    (outcome : LockOutcome) : Type 0 where
  pub answer : reply ≡ outcome.reply
  pub lock : IsLockAt new counts deadlines outcome.object

-- how often an owner has taken what it holds so
abbrev pub count_if : Option ReadWriteHold → ℕ
count_if None = 0
count_if (Some hold) = hold.count

-- how often an owner holds a lock with an access
abbrev pub hold_count : ThreadOfClient → Access → ReadWriteLock → ℕ
hold_count owner access lock = count_if (hold_of owner access lock)

-- of the keys no others than these two change
abbrev pub ChangesOnlyTwo : List ℕ → List ℕ → Keys → Keys → Type 0
ChangesOnlyTwo one two old new = (q : List ℕ) → bytes_eq one q ≡ false → bytes_eq two q ≡ false
    → entry_at new q ≡ entry_at old q

-- the greatest deadline, where there is a hold
abbrev pub last_deadline_if : ReadWriteLock → Option ℕ
last_deadline_if [] = None
last_deadline_if (hold ∷ rest) = Some (last_deadline (hold ∷ rest))

-- memory for an owner's hold was taken in both keys
pub record IsReady (keys : Keys) (counts deadlines member : List ℕ) : Type 0 where
  pub counts_ready : IsPrepared keys counts Hash member
  pub deadlines_ready : IsPrepared keys deadlines Zset member

-- An owner's hold can be put under the keys, counted so much more than it was and with this
-- deadline: where the owner has none yet, there is room, and memory in both keys.
pub record IsPut (keys : Keys) (counts deadlines : List ℕ) (lock : ReadWriteLock)
    (hold : ReadWriteHold) (member : List ℕ) (by : ℤ) (deadline : ℕ) : Type 0 where
  pub owner : IsOwner hold.owner
  pub text : member ≡ member_of hold
  pub count : pos (hold_count hold.owner hold.access lock) +ℤ by ≡ pos hold.count
  pub fits : hold.count ≤ hold_limit
  pub deadline_is : hold.deadline ≡ deadline
  pub room : hold_of hold.owner hold.access lock ≡ None → length lock < member_limit
  pub ready : hold_of hold.owner hold.access lock ≡ None → IsReady keys counts deadlines member

-- a hold of a lock that is gone at the moment, by its text
pub record IsExpired (moment : ℕ) (lock : ReadWriteLock) (member : List ℕ) : Type 0 where
  pub hold : ReadWriteHold
  pub owner : IsOwner hold.owner
  pub text : member ≡ member_of hold
  pub found : hold_of hold.owner hold.access lock ≡ Some hold
  pub gone : hold.deadline ≤ moment

-- the keys have a lock of which what is live is this
pub record HasLive (keys : Keys) (counts deadlines : List ℕ) (moment : ℕ) (live : ReadWriteLock)
    : Type 0 where
  pub lock : ReadWriteLock
  pub at : IsLockAt keys counts deadlines lock
  pub live_is : live_holds moment lock ≡ live

-- every hold of a lock is live at the moment
abbrev pub AreLive : ℕ → ReadWriteLock → Type 0
AreLive moment lock = AllByRecursion (λ hold. moment < hold.deadline) lock

-- taking a lock that nobody hinders: once more, or with a first hold
abbrev pub take_with : ThreadOfClient → Access → ℕ → ReadWriteLock → Option ReadWriteHold → LockOutcome
take_with owner access deadline lock (Some own) = take_again deadline lock own
take_with owner access deadline lock None =
    holding_so Granted (first_hold owner access deadline) lock

abbrev pub take_unhindered : ThreadOfClient → Access → ℕ → ReadWriteLock → LockOutcome
take_unhindered owner access deadline lock =
    take_with owner access deadline lock (hold_of owner access lock)

-- a first hold of an owner can come to a lock
pub record MayJoin (owner : ThreadOfClient) (access : Access) (deadline : ℕ) (lock : ReadWriteLock)
    : Type 0 where
  pub beside : AllByRecursion (MayStandBeside (first_hold owner access deadline)) lock
  pub room : length lock < member_limit
