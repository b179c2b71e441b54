-- The functions of the semaphore, after that of the Redisson guide, and their calls. Their words
-- are this project's own.
use Rattle.std.specs.Prelude.{ℕ, codes}
use Rattle.lr_objects.specs.declared.form.Arguments.TheVariants.{Number, Nothing}
use Rattle.lr_objects.specs.declared.form.Begins.TheVariants.{AtOnce, MayWait}
use Rattle.lr_objects.specs.declared.semaphore.SemaphoreFunction.{SemaphoreFunction}
use Rattle.lr_objects.specs.declared.semaphore.SemaphoreFunction.TheVariants as functions
use Rattle.lr_objects.specs.declared.semaphore.SemaphoreCall.{SemaphoreCall}
use Rattle.lr_objects.specs.declared.semaphore.SemaphoreCall.TheVariants.{Set, Try, Release, Count}
use Rattle.lr_objects.specs.Amount.{IsAmount}
use Rattle.lr_objects.specs.Form.{FormOf}

-- a request may begin with each of them, and a try may wait
abbrev pub semaphore_form : SemaphoreFunction → FormOf
semaphore_form functions.Set =
    record { word = codes "sem_set"; arguments = Number; begins = AtOnce }
semaphore_form functions.Try =
    record { word = codes "sem_try"; arguments = Number; begins = MayWait }
semaphore_form functions.Release =
    record { word = codes "sem_release"; arguments = Number; begins = AtOnce }
semaphore_form functions.Count =
    record { word = codes "sem_count"; arguments = Nothing; begins = AtOnce }

-- the call of a function, with the number in its place
abbrev pub semaphore_call_of : SemaphoreFunction → ℕ → SemaphoreCall
semaphore_call_of functions.Set number = Set number
semaphore_call_of functions.Try number = Try number
semaphore_call_of functions.Release number = Release number
semaphore_call_of functions.Count number = Count

-- a call as the program makes it: its number is within the limits
abbrev pub IsSemaphoreCall : SemaphoreCall → Type 0
IsSemaphoreCall (Set number) = IsAmount number
IsSemaphoreCall (Try number) = IsAmount number
IsSemaphoreCall (Release number) = IsAmount number
IsSemaphoreCall Count = Unit {0}
