-- What an event may name: this project's own limits, and what a request may begin with.
use Rattle.std.specs.Prelude.{ℕ, ◌≤◌}
use Rattle.lr_limits.specs.Limits.{client_limit}
use Rattle.lr_names.specs.Owner.{IsThread}
use Rattle.lr_waiting.specs.Begin.{CanBegin}
use Rattle.lr_machine.specs.declared.event.Event.{Event}
use Rattle.lr_machine.specs.declared.event.Event.TheVariants.{Begin, Ask, Exec, Take, Check, Wake, Fire, Quit, Sub, Push, Tick, RenewAsk, RenewExec, RenewTake, Force, Cut, Show}

-- clients are numbered from 1 to 64
abbrev pub IsClient : ℕ → Type 0
IsClient client = (1 ≤ client) × (client ≤ client_limit)

-- the client and the thread that an event names are within the limits
abbrev pub IsWithin : Event → Type 0
IsWithin (Begin client thread mode want) = IsClient client × IsThread thread
IsWithin (Ask client thread) = IsClient client × IsThread thread
IsWithin (Exec client thread) = IsClient client × IsThread thread
IsWithin (Take client thread) = IsClient client × IsThread thread
IsWithin (Check client thread) = IsClient client × IsThread thread
IsWithin (Wake client thread) = IsClient client × IsThread thread
IsWithin (Fire client thread) = IsClient client × IsThread thread
IsWithin (Quit client thread) = IsClient client × IsThread thread
IsWithin (Sub client) = IsClient client
IsWithin (Push client) = IsClient client
IsWithin (Tick moment) = Unit {0}
IsWithin (RenewAsk client thread kind name) = IsClient client × IsThread thread
IsWithin (RenewExec client thread kind name) = IsClient client × IsThread thread
IsWithin (RenewTake client thread kind name) = IsClient client × IsThread thread
IsWithin (Force name) = Unit {0}
IsWithin (Cut client) = IsClient client
IsWithin Show = Unit {0}

-- what the event may begin a request with
abbrev pub MayBegin : Event → Type 0
MayBegin (Begin client thread mode want) = CanBegin mode want
MayBegin _ = Unit {0}
