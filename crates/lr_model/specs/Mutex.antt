-- The reentrant lock, after the lock of the Redisson guide: the hold of one owner. Its functions
-- see the lock as it stands, with a hold that may have expired.
use Rattle.std.specs.Prelude.{ℕ, List, Option, Some, None}
use Rattle.lr_names.specs.Owner.{ThreadOfClient}
use Rattle.lr_names.specs.Post.{post_to}
use Rattle.lr_names.specs.declared.kind.Kind.TheVariants.{Mutex}
use Rattle.lr_names.specs.declared.post.Post.{Post}
use Rattle.lr_objects.specs.declared.lock.LockCall.{LockCall}
use Rattle.lr_objects.specs.declared.lock.LockCall.TheVariants.{Try, Unlock, Renew, Force}
use Rattle.lr_model.specs.declared.hold.Hold.{Hold}
use Rattle.lr_model.specs.Claim.{Concern, OwnHold, AllHolds, Exclusive}
use Rattle.lr_model.specs.Hold.{live_hold, take_hold, give_back_hold, renew_hold, end_hold}
use Rattle.lr_model.specs.Outcome.{Outcome, with_lease}

-- the message that a lock has come free
abbrev pub lock_post : List ℕ → Post
lock_post name = post_to (record { kind = Mutex; name = name; owner = None })

abbrev pub lock_try : ℕ → ThreadOfClient → ℕ → Option Hold → Outcome (Option Hold)
lock_try moment owner lease lock =
    with_lease lease lock (take_hold moment owner lease (live_hold moment lock))

abbrev pub lock_unlock : List ℕ → ℕ → ThreadOfClient → ℕ → Option Hold → Outcome (Option Hold)
lock_unlock name moment owner rest lock =
    with_lease rest lock
    (give_back_hold (Some (lock_post name)) moment owner rest (live_hold moment lock))

abbrev pub lock_renew : ℕ → ThreadOfClient → ℕ → Option Hold → Outcome (Option Hold)
lock_renew moment owner lease lock =
    with_lease lease lock (renew_hold moment owner lease (live_hold moment lock))

abbrev pub lock_force : List ℕ → ℕ → Option Hold → Outcome (Option Hold)
lock_force name moment lock = end_hold (Some (lock_post name)) (live_hold moment lock)

-- what a call makes of the lock of this name
abbrev pub lock_call : List ℕ → ℕ → LockCall → Option Hold → Outcome (Option Hold)
lock_call name moment (Try owner lease) = lock_try moment owner lease
lock_call name moment (Unlock owner rest) = lock_unlock name moment owner rest
lock_call name moment (Renew owner lease) = lock_renew moment owner lease
lock_call name moment Force = lock_force name moment

-- owners hold it alone
abbrev pub lock_concern : LockCall → Concern
lock_concern (Try owner lease) = OwnHold Exclusive owner lease
lock_concern (Unlock owner rest) = OwnHold Exclusive owner rest
lock_concern (Renew owner lease) = OwnHold Exclusive owner lease
lock_concern Force = AllHolds
