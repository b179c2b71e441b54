-- The functions of expirable permits, after the permit-expirable semaphore of the Redisson guide, and
-- their calls. Their words are this project's own.
use Rattle.std.specs.Prelude.{ℕ, List, codes}
use Rattle.lr_names.specs.Owner.{IsId}
use Rattle.lr_objects.specs.declared.form.Arguments.TheVariants.{Number, Nothing, Id, IdAndLease}
use Rattle.lr_objects.specs.declared.form.Begins.TheVariants.{AtOnce, MayWait}
use Rattle.lr_objects.specs.declared.permits.PermitFunction.{PermitFunction}
use Rattle.lr_objects.specs.declared.permits.PermitFunction.TheVariants as functions
use Rattle.lr_objects.specs.declared.permits.PermitCall.{PermitCall}
use Rattle.lr_objects.specs.declared.permits.PermitCall.TheVariants.{Set, Try, Release, Count}
use Rattle.lr_objects.specs.Amount.{IsAmount}
use Rattle.lr_objects.specs.Form.{FormOf}

-- a request may begin with each of them, and a try may wait
abbrev pub permit_form : PermitFunction → FormOf
permit_form functions.Set =
    record { word = codes "permit_set"; arguments = Number; begins = AtOnce }
permit_form functions.Try =
    record { word = codes "permit_try"; arguments = IdAndLease; begins = MayWait }
permit_form functions.Release =
    record { word = codes "permit_release"; arguments = Id; begins = AtOnce }
permit_form functions.Count =
    record { word = codes "permit_count"; arguments = Nothing; begins = AtOnce }

-- the call of a function, with the number, the id and the lease in their places
abbrev pub permit_call_of : PermitFunction → ℕ → List ℕ → ℕ → PermitCall
permit_call_of functions.Set number id lease = Set number
permit_call_of functions.Try number id lease = Try id lease
permit_call_of functions.Release number id lease = Release id
permit_call_of functions.Count number id lease = Count

-- a call as the program makes it: its number is within the limits, and its id is one
abbrev pub IsPermitCall : PermitCall → Type 0
IsPermitCall (Set number) = IsAmount number
IsPermitCall (Try id lease) = IsId id
IsPermitCall (Release id) = IsId id
IsPermitCall Count = Unit {0}
