-- The function of each call, and what it is given: a line for each. This project's own.
use Rattle.std.specs.Prelude.{false}
use Rattle.lr_objects.specs.declared.access.Access.{Access}
use Rattle.lr_objects.specs.declared.access.Access.TheVariants as accesses
use Rattle.lr_objects.specs.declared.kinds.Function.TheVariants as functions
use Rattle.lr_objects.specs.declared.kinds.Call.{Call}
use Rattle.lr_objects.specs.declared.kinds.Call.TheVariants as kinds
use Rattle.lr_objects.specs.declared.lock.LockCall.{LockCall}
use Rattle.lr_objects.specs.declared.lock.LockCall.TheVariants as lock
use Rattle.lr_objects.specs.declared.lock.LockFunction.TheVariants as locks
use Rattle.lr_objects.specs.declared.fair.FairCall.{FairCall}
use Rattle.lr_objects.specs.declared.fair.FairCall.TheVariants as fair
use Rattle.lr_objects.specs.declared.fair.FairFunction.TheVariants as fairs
use Rattle.lr_objects.specs.declared.read_write.ReadWriteCall.{ReadWriteCall}
use Rattle.lr_objects.specs.declared.read_write.ReadWriteCall.TheVariants as read_write
use Rattle.lr_objects.specs.declared.read_write.ReadWriteFunction.{ReadWriteFunction}
use Rattle.lr_objects.specs.declared.read_write.ReadWriteFunction.TheVariants as read_writes
use Rattle.lr_objects.specs.declared.fenced.FencedCall.{FencedCall}
use Rattle.lr_objects.specs.declared.fenced.FencedCall.TheVariants as fenced
use Rattle.lr_objects.specs.declared.fenced.FencedFunction.TheVariants as fenceds
use Rattle.lr_objects.specs.declared.semaphore.SemaphoreCall.{SemaphoreCall}
use Rattle.lr_objects.specs.declared.semaphore.SemaphoreCall.TheVariants as semaphore
use Rattle.lr_objects.specs.declared.semaphore.SemaphoreFunction.TheVariants as semaphores
use Rattle.lr_objects.specs.declared.permits.PermitCall.{PermitCall}
use Rattle.lr_objects.specs.declared.permits.PermitCall.TheVariants as permit
use Rattle.lr_objects.specs.declared.permits.PermitFunction.TheVariants as permits
use Rattle.lr_objects.specs.declared.countdown.CountdownCall.{CountdownCall}
use Rattle.lr_objects.specs.declared.countdown.CountdownCall.TheVariants as countdown
use Rattle.lr_objects.specs.declared.countdown.CountdownFunction.TheVariants as countdowns
use Rattle.lr_objects.specs.declared.kinds.Function.{Function}
use Rattle.lr_frames.specs.declared.given.Given.{Given}
use Rattle.lr_frames.specs.declared.said.Said.{Said}
use Rattle.lr_frames.specs.Given.{owned, given_nothing, given_owner, given_lease, given_number, given_id}

abbrev pub said : Function → Given → Said
said function given = record { function = function; given = given }

abbrev pub lock_said : LockCall → Said
lock_said (lock.Try owner lease) = said (functions.Lock locks.Try) (given_lease owner lease)
lock_said (lock.Unlock owner rest) = said (functions.Lock locks.Unlock) (given_lease owner rest)
lock_said (lock.Renew owner lease) = said (functions.Lock locks.Renew) (given_lease owner lease)
lock_said lock.Force = said (functions.Lock locks.Force) given_nothing

abbrev pub fair_said : FairCall → Said
fair_said (fair.Try owner lease queue) =
    said (functions.Fair fairs.Try) (owned owner lease queue accesses.Read)
fair_said (fair.Unlock owner rest) = said (functions.Fair fairs.Unlock) (given_lease owner rest)
fair_said (fair.Leave owner) = said (functions.Fair fairs.Leave) (given_owner owner)
fair_said (fair.Renew owner lease) = said (functions.Fair fairs.Renew) (given_lease owner lease)

abbrev pub take_function : Access → ReadWriteFunction
take_function accesses.Read = read_writes.Read
take_function accesses.Write = read_writes.Write

abbrev pub unlock_function : Access → ReadWriteFunction
unlock_function accesses.Read = read_writes.UnlockRead
unlock_function accesses.Write = read_writes.UnlockWrite

abbrev pub read_write_said : ReadWriteCall → Said
read_write_said (read_write.Take access owner lease) =
    said (functions.ReadWrite (take_function access)) (given_lease owner lease)
read_write_said (read_write.Unlock access owner rest) =
    said (functions.ReadWrite (unlock_function access)) (given_lease owner rest)
read_write_said (read_write.Renew access owner lease) =
    said (functions.ReadWrite read_writes.Renew) (owned owner lease false access)

abbrev pub fenced_said : FencedCall → Said
fenced_said (fenced.Try owner lease) = said (functions.Fenced fenceds.Try) (given_lease owner lease)
fenced_said (fenced.Unlock owner rest) =
    said (functions.Fenced fenceds.Unlock) (given_lease owner rest)
fenced_said (fenced.Renew owner lease) =
    said (functions.Fenced fenceds.Renew) (given_lease owner lease)
fenced_said fenced.Token = said (functions.Fenced fenceds.Token) given_nothing

abbrev pub semaphore_said : SemaphoreCall → Said
semaphore_said (semaphore.Set number) =
    said (functions.Semaphore semaphores.Set) (given_number number)
semaphore_said (semaphore.Try number) =
    said (functions.Semaphore semaphores.Try) (given_number number)
semaphore_said (semaphore.Release number) =
    said (functions.Semaphore semaphores.Release) (given_number number)
semaphore_said semaphore.Count = said (functions.Semaphore semaphores.Count) given_nothing

abbrev pub permit_said : PermitCall → Said
permit_said (permit.Set number) = said (functions.Permits permits.Set) (given_number number)
permit_said (permit.Try id lease) = said (functions.Permits permits.Try) (given_id id lease)
permit_said (permit.Release id) = said (functions.Permits permits.Release) (given_id id 0)
permit_said permit.Count = said (functions.Permits permits.Count) given_nothing

abbrev pub countdown_said : CountdownCall → Said
countdown_said (countdown.Set number) =
    said (functions.Countdown countdowns.Set) (given_number number)
countdown_said countdown.Down = said (functions.Countdown countdowns.Down) given_nothing
countdown_said countdown.Count = said (functions.Countdown countdowns.Count) given_nothing

-- by the kind of the object
abbrev pub call_said : Call → Said
call_said (kinds.Lock call) = lock_said call
call_said (kinds.Fair call) = fair_said call
call_said (kinds.ReadWrite call) = read_write_said call
call_said (kinds.Fenced call) = fenced_said call
call_said (kinds.Semaphore call) = semaphore_said call
call_said (kinds.Permits call) = permit_said call
call_said (kinds.Countdown call) = countdown_said call
