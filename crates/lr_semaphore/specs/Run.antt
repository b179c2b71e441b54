-- What a call on a semaphore does to the keys.
use Rattle.std.specs.Prelude.{List, ℕ, Bool, false, is_none, Option}
use Rattle.lr_keys.specs.KeySpace.{KeyEntry}
use Rattle.lr_objects.specs.Op.{call_on}
use Rattle.lr_objects.specs.declared.kinds.Call.TheVariants.{Semaphore}
use Rattle.lr_objects.specs.declared.op.Op.{Op}
use Rattle.lr_objects.specs.declared.semaphore.SemaphoreCall.{SemaphoreCall}
use Rattle.lr_objects.specs.declared.semaphore.SemaphoreCall.TheVariants as calls

-- a call on the semaphore of this name
abbrev pub semaphore_op : List ℕ → SemaphoreCall → Op
semaphore_op name call = call_on name (Semaphore call)

-- whether a call makes the key of its semaphore where this is there: only that takes memory
abbrev pub makes_key : SemaphoreCall → Option KeyEntry → Bool
makes_key (calls.Set number) entry = is_none entry
makes_key (calls.Release number) entry = is_none entry
makes_key _ entry = false
