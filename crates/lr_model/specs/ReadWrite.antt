-- The read-write lock, after that of the Redisson guide: many owners may read at once, or one may
-- write, who may read besides. It is its holds, in order of making. Its functions see the lock as
-- it stands, with holds that may have expired.
use Rattle.std.specs.Prelude.{ℕ, ◌+◌, ◌-◌, ◌==◌, nat_lt, max, Bool, true, false, not, ◌&&◌, List, [], ◌∷◌, length, filter, find, Option, Some, None, if◌then◌else◌}
use Rattle.lr_limits.specs.Limits.{hold_limit, member_limit}
use Rattle.lr_names.specs.Owner.{ThreadOfClient, same_owner}
use Rattle.lr_names.specs.Post.{post_to}
use Rattle.lr_names.specs.declared.kind.Kind.TheVariants.{Rw}
use Rattle.lr_names.specs.declared.post.Post.{Post}
use Rattle.lr_objects.specs.declared.access.Access.{Access}
use Rattle.lr_objects.specs.declared.access.Access.TheVariants.{Read, Write}
use Rattle.lr_objects.specs.declared.read_write.ReadWriteCall.{ReadWriteCall}
use Rattle.lr_objects.specs.declared.read_write.ReadWriteCall.TheVariants.{Take, Unlock, Renew}
use Rattle.lr_objects.specs.declared.reply.Reply.{Reply}
use Rattle.lr_objects.specs.declared.reply.Reply.TheVariants.{Granted, Busy, Kept, Freed, NotHeld, Renewed, Lost, TooDeep, TooMany}
use Rattle.lr_model.specs.declared.read_write_hold.ReadWriteHold.{ReadWriteHold}
use Rattle.lr_model.specs.Claim.{HoldMode, Concern, OwnHold, Exclusive, Shared}
use Rattle.lr_model.specs.Moment.{is_live}
use Rattle.lr_model.specs.Outcome.{Outcome, silent_outcome, with_lease}

-- the holds of a lock, in order of making
abbrev pub ReadWriteLock : Type 0
ReadWriteLock = List ReadWriteHold

-- what a function makes of a lock
abbrev pub LockOutcome : Type 0
LockOutcome = Outcome ReadWriteLock

-- whether an access is to write
abbrev pub is_write : Access → Bool
is_write Read = false
is_write Write = true

-- whether two accesses are one
abbrev pub same_access : Access → Access → Bool
same_access Read access = not (is_write access)
same_access Write access = is_write access

-- whether a hold is this owner's, with this access
abbrev pub is_hold_of : ThreadOfClient → Access → ReadWriteHold → Bool
is_hold_of owner access hold = same_owner hold.owner owner && same_access hold.access access

-- whether a hold keeps this owner from reading: another writes
abbrev pub is_writer_beside : ThreadOfClient → ReadWriteHold → Bool
is_writer_beside owner hold = is_write hold.access && not (same_owner hold.owner owner)

-- the owner's hold with this access
abbrev pub hold_of : ThreadOfClient → Access → ReadWriteLock → Option ReadWriteHold
hold_of owner access lock = find (is_hold_of owner access) lock

-- the write hold of another owner
abbrev pub writer_beside : ThreadOfClient → ReadWriteLock → Option ReadWriteHold
writer_beside owner lock = find (is_writer_beside owner) lock

-- the holds whose deadlines haven't come
abbrev pub live_holds : ℕ → ReadWriteLock → ReadWriteLock
live_holds moment lock = filter (λ hold. is_live hold.deadline moment) lock

-- the lock with this hold: in the place of that of the same owner and access, or else last
abbrev pub with_hold : ReadWriteHold → ReadWriteLock → ReadWriteLock
with_hold hold [] = hold ∷ []
with_hold hold (first ∷ rest) =
    if is_hold_of hold.owner hold.access first then hold ∷ rest else first ∷ with_hold hold rest

-- the lock without the owner's hold with this access
abbrev pub without_hold : ThreadOfClient → Access → ReadWriteLock → ReadWriteLock
without_hold owner access [] = []
without_hold owner access (first ∷ rest) =
    if is_hold_of owner access first then rest else first ∷ without_hold owner access rest

-- the greatest deadline
abbrev pub last_deadline : ReadWriteLock → ℕ
last_deadline [] = 0
last_deadline (hold ∷ rest) = max hold.deadline (last_deadline rest)

-- a reply after which the lock has this hold
abbrev pub holding_so : Reply → ReadWriteHold → ReadWriteLock → LockOutcome
holding_so reply hold lock = silent_outcome reply (with_hold hold lock)

-- an owner's first hold with an access
abbrev pub first_hold : ThreadOfClient → Access → ℕ → ReadWriteHold
first_hold owner access deadline =
    record { owner = owner; access = access; count = 1; deadline = deadline }

-- Taking one's own hold once more: a million times at most.
abbrev pub take_again : ℕ → ReadWriteLock → ReadWriteHold → LockOutcome
take_again deadline lock own =
    if own.count == hold_limit then silent_outcome TooDeep lock
    else holding_so Granted (record own { count = own.count + 1; deadline = deadline }) lock

-- Reading, where nobody else writes: a lock has 65,536 holds at most.
abbrev pub read_unhindered : ThreadOfClient → ℕ → ReadWriteLock → Option ReadWriteHold → LockOutcome
read_unhindered owner deadline lock (Some own) = take_again deadline lock own
read_unhindered owner deadline lock None =
    if nat_lt (length lock) member_limit
    then holding_so Granted (first_hold owner Read deadline) lock
    else silent_outcome TooMany lock

-- Reading: where another writes, the owner is told how long that lasts.
abbrev pub read_beside : ℕ → ThreadOfClient → ℕ → ReadWriteLock → Option ReadWriteHold → LockOutcome
read_beside moment owner lease lock (Some writer) =
    silent_outcome (Busy (writer.deadline - moment)) lock
read_beside moment owner lease lock None =
    read_unhindered owner (moment + lease) lock (hold_of owner Read lock)

-- Beginning to write: nobody may hold the lock, not even the owner, to read. It is told how long
-- the last hold lasts.
abbrev pub write_first : ℕ → ThreadOfClient → ℕ → ReadWriteLock → LockOutcome
write_first moment owner lease [] =
    holding_so Granted (first_hold owner Write (moment + lease)) []
write_first moment owner lease (hold ∷ rest) =
    silent_outcome (Busy (last_deadline (hold ∷ rest) - moment)) (hold ∷ rest)

-- writing, by the write hold of the owner
abbrev pub write_with : ℕ → ThreadOfClient → ℕ → ReadWriteLock → Option ReadWriteHold → LockOutcome
write_with moment owner lease lock (Some own) = take_again (moment + lease) lock own
write_with moment owner lease lock None = write_first moment owner lease lock

-- the message that a lock has come free
abbrev pub rw_post : List ℕ → Post
rw_post name = post_to (record { kind = Rw; name = name; owner = None })

-- The message when a hold has ended and these are left: the end of a write hold is told always, and
-- that of a read hold where none is left.
abbrev pub post_at_end : List ℕ → Access → ReadWriteLock → Option Post
post_at_end name Write left = Some (rw_post name)
post_at_end name Read [] = Some (rw_post name)
post_at_end name Read (hold ∷ rest) = None

-- a hold has ended, and these are left
abbrev pub ended : List ℕ → Access → ReadWriteLock → LockOutcome
ended name access left =
    record { reply = Freed; object = left; post = post_at_end name access left }

-- Giving one hold back, by the hold of the owner: what stays held lasts for the rest lease.
abbrev pub give_back_with : List ℕ → ℕ → ReadWriteLock → Option ReadWriteHold → LockOutcome
give_back_with name deadline lock None = silent_outcome NotHeld lock
give_back_with name deadline lock (Some own) =
    if own.count == 1 then ended name own.access (without_hold own.owner own.access lock)
    else holding_so Kept (record own { count = own.count - 1; deadline = deadline }) lock

-- renewing, by the hold of the owner
abbrev pub renew_with : ℕ → ReadWriteLock → Option ReadWriteHold → LockOutcome
renew_with deadline lock None = silent_outcome Lost lock
renew_with deadline lock (Some own) =
    holding_so Renewed (record own { deadline = deadline }) lock

-- the same steps on the live holds of a lock
abbrev pub read : ℕ → ThreadOfClient → ℕ → ReadWriteLock → LockOutcome
read moment owner lease live = read_beside moment owner lease live (writer_beside owner live)

abbrev pub write : ℕ → ThreadOfClient → ℕ → ReadWriteLock → LockOutcome
write moment owner lease live = write_with moment owner lease live (hold_of owner Write live)

abbrev pub give_back : List ℕ → ℕ → ThreadOfClient → Access → ℕ → ReadWriteLock → LockOutcome
give_back name moment owner access rest live =
    give_back_with name (moment + rest) live (hold_of owner access live)

abbrev pub renew : ℕ → ThreadOfClient → Access → ℕ → ReadWriteLock → LockOutcome
renew moment owner access lease live =
    renew_with (moment + lease) live (hold_of owner access live)

-- the functions
abbrev pub rw_read : ℕ → ThreadOfClient → ℕ → ReadWriteLock → LockOutcome
rw_read moment owner lease lock =
    with_lease lease lock (read moment owner lease (live_holds moment lock))

abbrev pub rw_write : ℕ → ThreadOfClient → ℕ → ReadWriteLock → LockOutcome
rw_write moment owner lease lock =
    with_lease lease lock (write moment owner lease (live_holds moment lock))

abbrev pub rw_unlock : List ℕ → ℕ → ThreadOfClient → Access → ℕ → ReadWriteLock → LockOutcome
rw_unlock name moment owner access rest lock =
    with_lease rest lock (give_back name moment owner access rest (live_holds moment lock))

abbrev pub rw_renew : ℕ → ThreadOfClient → Access → ℕ → ReadWriteLock → LockOutcome
rw_renew moment owner access lease lock =
    with_lease lease lock (renew moment owner access lease (live_holds moment lock))

-- what a call makes of the lock of this name
abbrev pub read_write_call : List ℕ → ℕ → ReadWriteCall → ReadWriteLock → LockOutcome
read_write_call name moment (Take Read owner lease) = rw_read moment owner lease
read_write_call name moment (Take Write owner lease) = rw_write moment owner lease
read_write_call name moment (Unlock access owner rest) = rw_unlock name moment owner access rest
read_write_call name moment (Renew access owner lease) = rw_renew moment owner access lease

-- owners hold it beside one another to read, and alone to write
abbrev pub mode_of : Access → HoldMode
mode_of Read = Shared
mode_of Write = Exclusive

abbrev pub read_write_concern : ReadWriteCall → Concern
read_write_concern (Take access owner lease) = OwnHold (mode_of access) owner lease
read_write_concern (Unlock access owner rest) = OwnHold (mode_of access) owner rest
read_write_concern (Renew access owner lease) = OwnHold (mode_of access) owner lease
