-- The functions of the fenced lock, after that of the Redisson guide, and their calls. Their words
-- are this project's own.
use Rattle.std.specs.Prelude.{ℕ, codes}
use Rattle.lr_names.specs.Owner.{ThreadOfClient, IsOwner}
use Rattle.lr_objects.specs.declared.fenced.FencedFunction.{FencedFunction}
use Rattle.lr_objects.specs.declared.fenced.FencedFunction.TheVariants as functions
use Rattle.lr_objects.specs.declared.fenced.FencedCall.{FencedCall}
use Rattle.lr_objects.specs.declared.fenced.FencedCall.TheVariants.{Try, Unlock, Renew, Token}
use Rattle.lr_objects.specs.declared.form.Arguments.TheVariants.{Lease, Nothing}
use Rattle.lr_objects.specs.declared.form.Begins.TheVariants.{Never, AtOnce, MayWait}
use Rattle.lr_objects.specs.Form.{FormOf}

-- a request may begin with all but a renewal, and a try may wait
abbrev pub fenced_form : FencedFunction → FormOf
fenced_form functions.Try =
    record { word = codes "fenced_try"; arguments = Lease; begins = MayWait }
fenced_form functions.Unlock =
    record { word = codes "fenced_unlock"; arguments = Lease; begins = AtOnce }
fenced_form functions.Renew =
    record { word = codes "fenced_renew"; arguments = Lease; begins = Never }
fenced_form functions.Token =
    record { word = codes "fenced_token"; arguments = Nothing; begins = AtOnce }

-- the call of a function, with the owner and the lease in their places
abbrev pub fenced_call_of : FencedFunction → ThreadOfClient → ℕ → FencedCall
fenced_call_of functions.Try owner lease = Try owner lease
fenced_call_of functions.Unlock owner rest = Unlock owner rest
fenced_call_of functions.Renew owner lease = Renew owner lease
fenced_call_of functions.Token owner lease = Token

-- a call as the program makes it: its owner is one
abbrev pub IsFencedCall : FencedCall → Type 0
IsFencedCall (Try owner lease) = IsOwner owner
IsFencedCall (Unlock owner rest) = IsOwner owner
IsFencedCall (Renew owner lease) = IsOwner owner
IsFencedCall Token = Unit {0}
