-- The functions and the calls of all kinds of object. A further kind adds a line to each table, and
-- a file of its own.
use Rattle.std.specs.Prelude.{ℕ, Bool}
use Rattle.lr_names.specs.Owner.{ThreadOfClient}
use Rattle.lr_names.specs.declared.kind.Kind.{Kind}
use Rattle.lr_names.specs.declared.kind.Kind.TheVariants as kinds
use Rattle.lr_objects.specs.declared.kinds.Function.{Function}
use Rattle.lr_objects.specs.declared.kinds.Function.TheVariants as functions
use Rattle.lr_objects.specs.declared.kinds.Call.{Call}
use Rattle.lr_objects.specs.declared.kinds.Call.TheVariants as calls
use Rattle.lr_objects.specs.declared.want.Want.{Want}
use Rattle.lr_objects.specs.Form.{FormOf}
use Rattle.lr_objects.specs.LockCalls.{lock_form, lock_call_of, IsLockCall}
use Rattle.lr_objects.specs.FairCalls.{fair_form, fair_call_of, IsFairCall}
use Rattle.lr_objects.specs.ReadWriteCalls.{read_write_form, read_write_call_of, IsReadWriteCall}
use Rattle.lr_objects.specs.FencedCalls.{fenced_form, fenced_call_of, IsFencedCall}
use Rattle.lr_objects.specs.SemaphoreCalls.{semaphore_form, semaphore_call_of, IsSemaphoreCall}
use Rattle.lr_objects.specs.PermitCalls.{permit_form, permit_call_of, IsPermitCall}
use Rattle.lr_objects.specs.CountdownCalls.{countdown_form, countdown_call_of, IsCountdownCall}

-- how a function is written and used
abbrev pub form_of : Function → FormOf
form_of (functions.Lock function) = lock_form function
form_of (functions.Fair function) = fair_form function
form_of (functions.ReadWrite function) = read_write_form function
form_of (functions.Fenced function) = fenced_form function
form_of (functions.Semaphore function) = semaphore_form function
form_of (functions.Permits function) = permit_form function
form_of (functions.Countdown function) = countdown_form function

-- the call of a function for a want, with the owner and the lease in their places
abbrev pub call_of : Function → Want → ThreadOfClient → ℕ → Bool → Call
call_of (functions.Lock f) want owner lease queue = calls.Lock (lock_call_of f owner lease)
call_of (functions.Fair f) want owner lease queue = calls.Fair (fair_call_of f owner lease queue)
call_of (functions.ReadWrite f) want owner lease queue =
    calls.ReadWrite (read_write_call_of f owner lease)
call_of (functions.Fenced f) want owner lease queue = calls.Fenced (fenced_call_of f owner lease)
call_of (functions.Semaphore f) want owner lease queue =
    calls.Semaphore (semaphore_call_of f want.number)
call_of (functions.Permits f) want owner lease queue =
    calls.Permits (permit_call_of f want.number want.id lease)
call_of (functions.Countdown f) want owner lease queue =
    calls.Countdown (countdown_call_of f want.number)

-- the kind of the object that a call is about
abbrev pub call_kind : Call → Kind
call_kind (calls.Lock call) = kinds.Mutex
call_kind (calls.Fair call) = kinds.Fair
call_kind (calls.ReadWrite call) = kinds.Rw
call_kind (calls.Fenced call) = kinds.Fenced
call_kind (calls.Semaphore call) = kinds.Semaphore
call_kind (calls.Permits call) = kinds.Permits
call_kind (calls.Countdown call) = kinds.Countdown

-- a call as the program makes it: its owner, its number and its id are such
abbrev pub IsCallOfKind : Call → Type 0
IsCallOfKind (calls.Lock call) = IsLockCall call
IsCallOfKind (calls.Fair call) = IsFairCall call
IsCallOfKind (calls.ReadWrite call) = IsReadWriteCall call
IsCallOfKind (calls.Fenced call) = IsFencedCall call
IsCallOfKind (calls.Semaphore call) = IsSemaphoreCall call
IsCallOfKind (calls.Permits call) = IsPermitCall call
IsCallOfKind (calls.Countdown call) = IsCountdownCall call
