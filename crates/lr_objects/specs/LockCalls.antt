-- The functions of the reentrant lock, after the lock of the Redisson guide, and their calls. Their
-- words are this project's own.
use Rattle.std.specs.Prelude.{ℕ, codes}
use Rattle.lr_names.specs.Owner.{ThreadOfClient, IsOwner}
use Rattle.lr_objects.specs.declared.form.Arguments.TheVariants.{Lease, Nothing}
use Rattle.lr_objects.specs.declared.form.Begins.TheVariants.{Never, AtOnce, MayWait}
use Rattle.lr_objects.specs.declared.lock.LockFunction.{LockFunction}
use Rattle.lr_objects.specs.declared.lock.LockFunction.TheVariants as functions
use Rattle.lr_objects.specs.declared.lock.LockCall.{LockCall}
use Rattle.lr_objects.specs.declared.lock.LockCall.TheVariants.{Try, Unlock, Renew, Force}
use Rattle.lr_objects.specs.Form.{FormOf}

-- a request may begin with a try or an unlock, and a try may wait
abbrev pub lock_form : LockFunction → FormOf
lock_form functions.Try = record { word = codes "lock_try"; arguments = Lease; begins = MayWait }
lock_form functions.Unlock =
    record { word = codes "lock_unlock"; arguments = Lease; begins = AtOnce }
lock_form functions.Renew = record { word = codes "lock_renew"; arguments = Lease; begins = Never }
lock_form functions.Force =
    record { word = codes "lock_force"; arguments = Nothing; begins = Never }

-- the call of a function, with the owner and the lease in their places
abbrev pub lock_call_of : LockFunction → ThreadOfClient → ℕ → LockCall
lock_call_of functions.Try owner lease = Try owner lease
lock_call_of functions.Unlock owner rest = Unlock owner rest
lock_call_of functions.Renew owner lease = Renew owner lease
lock_call_of functions.Force owner lease = Force

-- a call as the program makes it: its owner is one
abbrev pub IsLockCall : LockCall → Type 0
IsLockCall (Try owner lease) = IsOwner owner
IsLockCall (Unlock owner rest) = IsOwner owner
IsLockCall (Renew owner lease) = IsOwner owner
IsLockCall Force = Unit {0}
