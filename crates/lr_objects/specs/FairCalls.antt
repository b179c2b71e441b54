-- The functions of the fair lock, after that of the Redisson guide, and their calls. Their words,
-- and the place in a queue that is given up, are this project's own.
use Rattle.std.specs.Prelude.{ℕ, Bool, codes}
use Rattle.lr_names.specs.Owner.{ThreadOfClient, IsOwner}
use Rattle.lr_objects.specs.declared.fair.FairFunction.{FairFunction}
use Rattle.lr_objects.specs.declared.fair.FairFunction.TheVariants as functions
use Rattle.lr_objects.specs.declared.fair.FairCall.{FairCall}
use Rattle.lr_objects.specs.declared.fair.FairCall.TheVariants.{Try, Unlock, Leave, Renew}
use Rattle.lr_objects.specs.declared.form.Arguments.TheVariants.{Lease, Nothing}
use Rattle.lr_objects.specs.declared.form.Begins.TheVariants.{Never, AtOnce, MayWait}
use Rattle.lr_objects.specs.Form.{FormOf}

-- a request may begin with a try or an unlock, and a try may wait
abbrev pub fair_form : FairFunction → FormOf
fair_form functions.Try = record { word = codes "fair_try"; arguments = Lease; begins = MayWait }
fair_form functions.Unlock =
    record { word = codes "fair_unlock"; arguments = Lease; begins = AtOnce }
fair_form functions.Leave =
    record { word = codes "fair_leave"; arguments = Nothing; begins = Never }
fair_form functions.Renew = record { word = codes "fair_renew"; arguments = Lease; begins = Never }

-- the call of a function, with the owner and the lease in their places, and whether a try may take a
-- place in the queue
abbrev pub fair_call_of : FairFunction → ThreadOfClient → ℕ → Bool → FairCall
fair_call_of functions.Try owner lease queue = Try owner lease queue
fair_call_of functions.Unlock owner rest queue = Unlock owner rest
fair_call_of functions.Leave owner lease queue = Leave owner
fair_call_of functions.Renew owner lease queue = Renew owner lease

-- who makes a call
abbrev pub fair_owner : FairCall → ThreadOfClient
fair_owner (Try owner lease queue) = owner
fair_owner (Unlock owner rest) = owner
fair_owner (Leave owner) = owner
fair_owner (Renew owner lease) = owner

-- a call as the program makes it: its owner is one
abbrev pub IsFairCall : FairCall → Type 0
IsFairCall call = IsOwner (fair_owner call)
