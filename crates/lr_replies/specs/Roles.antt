-- What the functions do, as far as their replies tell: this project's own.
use Rattle.lr_objects.specs.declared.kinds.Function.{Function}
use Rattle.lr_objects.specs.declared.kinds.Function.TheVariants as kinds
use Rattle.lr_objects.specs.declared.lock.LockFunction.{LockFunction}
use Rattle.lr_objects.specs.declared.lock.LockFunction.TheVariants as lock
use Rattle.lr_objects.specs.declared.fair.FairFunction.{FairFunction}
use Rattle.lr_objects.specs.declared.fair.FairFunction.TheVariants as fair
use Rattle.lr_objects.specs.declared.read_write.ReadWriteFunction.{ReadWriteFunction}
use Rattle.lr_objects.specs.declared.read_write.ReadWriteFunction.TheVariants as read_write
use Rattle.lr_objects.specs.declared.fenced.FencedFunction.{FencedFunction}
use Rattle.lr_objects.specs.declared.fenced.FencedFunction.TheVariants as fenced
use Rattle.lr_objects.specs.declared.semaphore.SemaphoreFunction.{SemaphoreFunction}
use Rattle.lr_objects.specs.declared.semaphore.SemaphoreFunction.TheVariants as semaphore
use Rattle.lr_objects.specs.declared.permits.PermitFunction.{PermitFunction}
use Rattle.lr_objects.specs.declared.permits.PermitFunction.TheVariants as permits
use Rattle.lr_objects.specs.declared.countdown.CountdownFunction.{CountdownFunction}
use Rattle.lr_objects.specs.declared.countdown.CountdownFunction.TheVariants as countdown
use Rattle.lr_replies.specs.declared.role.Role.{Role}
use Rattle.lr_replies.specs.declared.role.Role.TheVariants.{Try, LimitedTry, TokenTry, CountedTry, PermitTry, Unlock, Renew, Force, Leave, Set, CountedRelease, PermitRelease, Count}

abbrev pub lock_role : LockFunction → Role
lock_role lock.Try = Try
lock_role lock.Unlock = Unlock
lock_role lock.Renew = Renew
lock_role lock.Force = Force

-- a queue has no more than so many places
abbrev pub fair_role : FairFunction → Role
fair_role fair.Try = LimitedTry
fair_role fair.Unlock = Unlock
fair_role fair.Leave = Leave
fair_role fair.Renew = Renew

-- many may read at once, but no more than so many; one writes
abbrev pub read_write_role : ReadWriteFunction → Role
read_write_role read_write.Read = LimitedTry
read_write_role read_write.Write = Try
read_write_role read_write.UnlockRead = Unlock
read_write_role read_write.UnlockWrite = Unlock
read_write_role read_write.Renew = Renew

abbrev pub fenced_role : FencedFunction → Role
fenced_role fenced.Try = TokenTry
fenced_role fenced.Unlock = Unlock
fenced_role fenced.Renew = Renew
fenced_role fenced.Token = Count

abbrev pub semaphore_role : SemaphoreFunction → Role
semaphore_role semaphore.Set = Set
semaphore_role semaphore.Try = CountedTry
semaphore_role semaphore.Release = CountedRelease
semaphore_role semaphore.Count = Count

abbrev pub permit_role : PermitFunction → Role
permit_role permits.Set = Set
permit_role permits.Try = PermitTry
permit_role permits.Release = PermitRelease
permit_role permits.Count = Count

abbrev pub countdown_role : CountdownFunction → Role
countdown_role countdown.Set = Set
countdown_role countdown.Down = Count
countdown_role countdown.Count = Count

abbrev pub role_of : Function → Role
role_of (kinds.Lock function) = lock_role function
role_of (kinds.Fair function) = fair_role function
role_of (kinds.ReadWrite function) = read_write_role function
role_of (kinds.Fenced function) = fenced_role function
role_of (kinds.Semaphore function) = semaphore_role function
role_of (kinds.Permits function) = permit_role function
role_of (kinds.Countdown function) = countdown_role function
