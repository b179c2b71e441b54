-- What a request may begin with.
use Rattle.std.specs.Prelude.{◌≡◌, ℕ, ◌≤◌, Bool, true, false}
use Rattle.lr_limits.specs.Limits.{longest_lease}
use Rattle.lr_objects.specs.Function.{arguments_of, begins}
use Rattle.lr_objects.specs.Want.{HasAmount}
use Rattle.lr_objects.specs.declared.countdown.CountdownFunction.{CountdownFunction}
use Rattle.lr_objects.specs.declared.countdown.CountdownFunction.TheVariants as countdown
use Rattle.lr_objects.specs.declared.fair.FairFunction.{FairFunction}
use Rattle.lr_objects.specs.declared.fair.FairFunction.TheVariants as fair
use Rattle.lr_objects.specs.declared.fenced.FencedFunction.{FencedFunction}
use Rattle.lr_objects.specs.declared.fenced.FencedFunction.TheVariants as fenced
use Rattle.lr_objects.specs.declared.kinds.Function.{Function}
use Rattle.lr_objects.specs.declared.kinds.Function.TheVariants as functions
use Rattle.lr_objects.specs.declared.lock.LockFunction.{LockFunction}
use Rattle.lr_objects.specs.declared.lock.LockFunction.TheVariants as lock
use Rattle.lr_objects.specs.declared.permits.PermitFunction.{PermitFunction}
use Rattle.lr_objects.specs.declared.permits.PermitFunction.TheVariants as permits
use Rattle.lr_objects.specs.declared.read_write.ReadWriteFunction.{ReadWriteFunction}
use Rattle.lr_objects.specs.declared.read_write.ReadWriteFunction.TheVariants as read_write
use Rattle.lr_objects.specs.declared.semaphore.SemaphoreFunction.{SemaphoreFunction}
use Rattle.lr_objects.specs.declared.semaphore.SemaphoreFunction.TheVariants as semaphore
use Rattle.lr_objects.specs.declared.form.Arguments.{Arguments}
use Rattle.lr_objects.specs.declared.form.Arguments.TheVariants as arguments
use Rattle.lr_objects.specs.declared.want.Lease.{Lease}
use Rattle.lr_objects.specs.declared.want.Lease.TheVariants as leases
use Rattle.lr_objects.specs.declared.want.Mode.{Mode}
use Rattle.lr_objects.specs.declared.want.Mode.TheVariants as modes
use Rattle.lr_objects.specs.declared.want.Want.{Want}

-- whether a request for a function of this kind may wait: to try a lock
abbrev pub lock_waits : LockFunction → Bool
lock_waits lock.Try = true
lock_waits _ = false

abbrev pub fair_waits : FairFunction → Bool
fair_waits fair.Try = true
fair_waits _ = false

abbrev pub fenced_waits : FencedFunction → Bool
fenced_waits fenced.Try = true
fenced_waits _ = false

-- to read or to write
abbrev pub read_write_waits : ReadWriteFunction → Bool
read_write_waits read_write.Read = true
read_write_waits read_write.Write = true
read_write_waits _ = false

abbrev pub semaphore_waits : SemaphoreFunction → Bool
semaphore_waits semaphore.Try = true
semaphore_waits _ = false

abbrev pub permit_waits : PermitFunction → Bool
permit_waits permits.Try = true
permit_waits _ = false

-- to see a latch at 0
abbrev pub countdown_waits : CountdownFunction → Bool
countdown_waits countdown.Count = true
countdown_waits _ = false

-- whether a request may wait. A further kind whose requests wait adds its line.
abbrev pub waits : Function → Bool
waits (functions.Lock function) = lock_waits function
waits (functions.Fair function) = fair_waits function
waits (functions.ReadWrite function) = read_write_waits function
waits (functions.Fenced function) = fenced_waits function
waits (functions.Semaphore function) = semaphore_waits function
waits (functions.Permits function) = permit_waits function
waits (functions.Countdown function) = countdown_waits function

-- a request that may wait is for a function with which one waits, for a thousand days at most
abbrev pub FitsMode : Mode → Function → Type 0
FitsMode modes.Once function = Unit {0}
FitsMode (modes.For millis) function =
    (waits function ≡ true) × ((1 ≤ millis) × (millis ≤ longest_lease))
FitsMode modes.Long function = waits function ≡ true

-- the watchdog's lease is for what a watchdog renews: a hold, and no permit
abbrev pub FitsLease : Arguments → Lease → Type 0
FitsLease arguments.Lease lease = Unit {0}
FitsLease _ lease = (millis : ℕ) × (lease ≡ leases.For millis)

-- what a request may begin with: a function that requests are made for, what that is given, a lease
-- of a number of milliseconds or the watchdog's, and as long a wait as the function has
pub record CanBegin (mode : Mode) (want : Want) : Type 0 where
  pub function : begins want.function ≡ true
  pub amount : HasAmount (arguments_of want.function) want
  pub lease : FitsLease (arguments_of want.function) want.lease
  pub wait : FitsMode mode want.function
