-- What a step looks at in a request.
use Rattle.std.specs.Prelude.{ℕ, Bool, true, false, Option, Some, None, if◌then◌else◌}
use Rattle.lr_objects.specs.declared.want.Want.{Want}
use Rattle.lr_waiting.specs.declared.waiter.Refusal.{Refusal}
use Rattle.lr_waiting.specs.declared.waiter.Stage.{Stage}
use Rattle.lr_waiting.specs.declared.waiter.Stage.TheVariants.{Joining, Ready, Refused, Asleep, Leaving}
use Rattle.lr_waiting.specs.declared.waiter.Waiter.{Waiter}
use Rattle.lr_waiting.specs.Session.{at_stage, leaving_function, leaving_want}

-- what a request knows whose call was refused, and that hasn't looked yet
abbrev pub refused_at : Stage → Option Refusal
refused_at (Refused refusal) = Some refusal
refused_at _ = None

-- what a request knows that sleeps
abbrev pub asleep_at : Stage → Option Refusal
asleep_at (Asleep refusal) = Some refusal
asleep_at _ = None

-- whether a request may be given up
abbrev pub may_give_up : Stage → Bool
may_give_up Joining = true
may_give_up (Ready turn) = true
may_give_up (Refused refusal) = true
may_give_up (Asleep refusal) = true
may_give_up _ = false

-- what a request asks for: what it began with, or to give its place in a queue up
abbrev pub want_at : Waiter → Stage → Want
want_at waiter (Leaving turn) = leaving_want waiter.want (leaving_function waiter.want.function)
want_at waiter _ = waiter.want

-- a request that counts among those that wait on its channel
abbrev pub joined : Waiter → Waiter
joined waiter =
    record { mode = waiter.mode; want = waiter.want; stage = waiter.stage; registered = true }

-- a request that may ask once more, with this ticket, where it is one that joins
abbrev pub ready_if : Bool → ℕ → Option Waiter → Option Waiter
ready_if joins turn None = None
ready_if joins turn (Some waiter) =
    if joins then Some (at_stage (Ready turn) waiter) else Some waiter
