-- What a look at the keys tells of one who would call.
use Rattle.std.specs.Prelude.{ℕ, Bool, false}
use Rattle.lr_limits.specs.Limits.{watchdog_lease}
use Rattle.lr_names.specs.Owner.{ThreadOfClient}
use Rattle.lr_objects.specs.Kinds.{call_of}
use Rattle.lr_objects.specs.Op.{call_on}
use Rattle.lr_objects.specs.Reply.{blocks}
use Rattle.lr_objects.specs.declared.kinds.Function.{Function}
use Rattle.lr_objects.specs.declared.want.Want.{Want}
use Rattle.lr_model.specs.Answer.{Objects, reply_of}

-- whether a function would have an owner wait at a moment, with what it wants else and the lease of
-- the watchdog
abbrev pub would_wait : Function → Objects → ℕ → Want → ThreadOfClient → Bool
would_wait function objects moment want owner =
    let call = call_of function want owner watchdog_lease false in
    blocks (reply_of objects moment (call_on want.name call)) function
