-- How the schedule language writes an event: this project's own, with one spelling each.
use Rattle.std.specs.Prelude.{◌≡◌, ℕ, ◌<◌, ◌≤◌, ◌^◌, List, [], ◌∷◌, replicate, codes, decimal}
use Rattle.lr_limits.specs.Limits.{last_moment}
use Rattle.lr_text.specs.Words.{joined}
use Rattle.lr_names.specs.Name.{IsName}
use Rattle.lr_names.specs.Owner.{IsId}
use Rattle.lr_objects.specs.Function.{arguments_of}
use Rattle.lr_objects.specs.Want.{mode_word, want_words}
use Rattle.lr_objects.specs.declared.form.Arguments.{Arguments}
use Rattle.lr_objects.specs.declared.form.Arguments.TheVariants as arguments
use Rattle.lr_objects.specs.declared.want.Lease.{Lease}
use Rattle.lr_objects.specs.declared.want.Lease.TheVariants as leases
use Rattle.lr_objects.specs.declared.want.Want.{Want}
use Rattle.lr_machine.specs.declared.event.Event.{Event}
use Rattle.lr_machine.specs.declared.event.Event.TheVariants.{Begin, Ask, Exec, Take, Check, Wake, Fire, Quit, Sub, Push, Tick, RenewAsk, RenewExec, RenewTake, Force, Cut, Show}
use Rattle.lr_waiting.specs.declared.watch.WatchKind.{WatchKind}
use Rattle.lr_waiting.specs.declared.watch.WatchKind.TheVariants as watched
use Rattle.lr_waiting.specs.Begin.{CanBegin}

-- the kind of a hold that is watched
abbrev pub watch_word : WatchKind → List ℕ
watch_word watched.Lock = codes "lock"
watch_word watched.Fair = codes "fair"
watch_word watched.Fenced = codes "fenced"
watch_word watched.Read = codes "read"
watch_word watched.Write = codes "write"

-- the hold of a client's thread
abbrev pub hold_words : ℕ → ℕ → WatchKind → List ℕ → List (List ℕ)
hold_words client thread kind name =
    decimal client ∷ decimal thread ∷ watch_word kind ∷ name ∷ []

-- the words of an event, in order
abbrev pub event_words : Event → List (List ℕ)
event_words (Begin client thread mode want) =
    codes "begin" ∷ decimal client ∷ decimal thread ∷ mode_word mode ∷ want_words want
event_words (Ask client thread) = codes "ask" ∷ decimal client ∷ decimal thread ∷ []
event_words (Exec client thread) = codes "exec" ∷ decimal client ∷ decimal thread ∷ []
event_words (Take client thread) = codes "take" ∷ decimal client ∷ decimal thread ∷ []
event_words (Check client thread) = codes "check" ∷ decimal client ∷ decimal thread ∷ []
event_words (Wake client thread) = codes "wake" ∷ decimal client ∷ decimal thread ∷ []
event_words (Fire client thread) = codes "fire" ∷ decimal client ∷ decimal thread ∷ []
event_words (Quit client thread) = codes "quit" ∷ decimal client ∷ decimal thread ∷ []
event_words (Sub client) = codes "sub" ∷ decimal client ∷ []
event_words (Push client) = codes "push" ∷ decimal client ∷ []
event_words (Tick moment) = codes "tick" ∷ decimal moment ∷ []
event_words (RenewAsk client thread kind name) =
    codes "rask" ∷ hold_words client thread kind name
event_words (RenewExec client thread kind name) =
    codes "rexec" ∷ hold_words client thread kind name
event_words (RenewTake client thread kind name) =
    codes "rtake" ∷ hold_words client thread kind name
event_words (Force name) = codes "force" ∷ name ∷ []
event_words (Cut client) = codes "cut" ∷ decimal client ∷ []
event_words Show = codes "show" ∷ []

-- the line of an event: its words with single spaces between them
abbrev pub event_text : Event → List ℕ
event_text event = joined (event_words event)

-- numbers in a schedule are below 2 to the 64th
abbrev pub IsNumber : ℕ → Type 0
IsNumber n = n < 2 ^ 64

-- a lease in milliseconds
abbrev pub IsMillis : Lease → Type 0
IsMillis lease = (millis : ℕ) × (lease ≡ leases.For millis) × IsNumber millis

-- or the watchdog's
abbrev pub IsLease : Lease → Type 0
IsLease leases.Watch = Unit {0}
IsLease (leases.For millis) = IsNumber millis

-- what the function isn't given is absent from its want
abbrev pub LeaseFits : Arguments → Lease → Type 0
LeaseFits arguments.Lease lease = IsLease lease
LeaseFits arguments.IdAndLease lease = IsMillis lease
LeaseFits _ lease = lease ≡ leases.For 0

abbrev pub NumberFits : Arguments → ℕ → Type 0
NumberFits arguments.Number n = IsNumber n
NumberFits _ n = n ≡ 0

abbrev pub IdFits : Arguments → List ℕ → Type 0
IdFits arguments.Id id = IsId id
IdFits arguments.IdAndLease id = IsId id
IdFits _ id = id ≡ replicate 16 0

-- a want as a line can spell it
pub record IsSpelled (want : Want) : Type 0 where
  pub named : IsName want.name
  pub lease : LeaseFits (arguments_of want.function) want.lease
  pub number : NumberFits (arguments_of want.function) want.number
  pub id : IdFits (arguments_of want.function) want.id

-- a client and a thread as a schedule can name them
abbrev pub AreNumbers : ℕ → ℕ → Type 0
AreNumbers client thread = IsNumber client × IsNumber thread

-- what a schedule can say
abbrev pub IsEvent : Event → Type 0
IsEvent (Begin client thread mode want) =
    AreNumbers client thread × CanBegin mode want × IsSpelled want
IsEvent (Ask client thread) = AreNumbers client thread
IsEvent (Exec client thread) = AreNumbers client thread
IsEvent (Take client thread) = AreNumbers client thread
IsEvent (Check client thread) = AreNumbers client thread
IsEvent (Wake client thread) = AreNumbers client thread
IsEvent (Fire client thread) = AreNumbers client thread
IsEvent (Quit client thread) = AreNumbers client thread
IsEvent (Sub client) = IsNumber client
IsEvent (Push client) = IsNumber client
IsEvent (Tick moment) = moment ≤ last_moment
IsEvent (RenewAsk client thread kind name) = AreNumbers client thread × IsName name
IsEvent (RenewExec client thread kind name) = AreNumbers client thread × IsName name
IsEvent (RenewTake client thread kind name) = AreNumbers client thread × IsName name
IsEvent (Force name) = IsName name
IsEvent (Cut client) = IsNumber client
IsEvent Show = Unit {0}
