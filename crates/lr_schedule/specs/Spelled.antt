-- Events as lines spell them, before their limits are looked at: this project's own.
use Rattle.std.specs.Prelude.{◌≡◌, ℕ, ◌≤◌, List, [], ◌∷◌, ◌++◌, codes, decimal}
use Rattle.lr_limits.specs.Limits.{event_limit, last_moment, longest_lease}
use Rattle.lr_names.specs.Name.{IsName}
use Rattle.lr_names.specs.Owner.{IsThread}
use Rattle.lr_objects.specs.declared.form.Arguments.{Arguments}
use Rattle.lr_objects.specs.declared.want.Mode.{Mode}
use Rattle.lr_objects.specs.declared.want.Mode.TheVariants as modes
use Rattle.lr_objects.specs.declared.want.Want.{Want}
use Rattle.lr_objects.specs.Want.{HasAmount, mode_word, want_words}
use Rattle.lr_waiting.specs.declared.watch.WatchKind.{WatchKind}
use Rattle.lr_waiting.specs.Begin.{CanBegin, FitsLease}
use Rattle.lr_machine.specs.declared.event.Event.{Event}
use Rattle.lr_machine.specs.declared.event.Event.TheVariants as events
use Rattle.lr_machine.specs.declared.schedule_line.ScheduleLine.{ScheduleLine}
use Rattle.lr_machine.specs.declared.schedule_line.ScheduleLine.TheVariants as lines
use Rattle.lr_machine.specs.EventText.{hold_words, IsNumber, AreNumbers, LeaseFits, NumberFits, IdFits, IsSpelled}
use Rattle.lr_machine.specs.Within.{IsClient, IsWithin}
use Rattle.lr_schedule.specs.declared.verb.ThreadVerb.{ThreadVerb}
use Rattle.lr_schedule.specs.declared.verb.ThreadVerb.TheVariants as thread_verbs
use Rattle.lr_schedule.specs.declared.verb.ClientVerb.{ClientVerb}
use Rattle.lr_schedule.specs.declared.verb.ClientVerb.TheVariants as client_verbs
use Rattle.lr_schedule.specs.declared.verb.RenewVerb.{RenewVerb}
use Rattle.lr_schedule.specs.declared.verb.RenewVerb.TheVariants as renew_verbs
use Rattle.lr_schedule.specs.declared.verb.Verb.{Verb}
use Rattle.lr_schedule.specs.declared.verb.Verb.TheVariants as verbs
use Rattle.lr_schedule.specs.declared.spelled.Who.{Who}
use Rattle.lr_schedule.specs.declared.spelled.Spelled.{Spelled}
use Rattle.lr_schedule.specs.declared.spelled.Spelled.TheVariants.{Begin, Thread, Client, Tick, Renew, Force, Show}

-- the word that a line begins with. A further event adds its line, here and to the events below.
abbrev pub thread_word : ThreadVerb → List ℕ
thread_word thread_verbs.Ask = codes "ask"
thread_word thread_verbs.Exec = codes "exec"
thread_word thread_verbs.Take = codes "take"
thread_word thread_verbs.Check = codes "check"
thread_word thread_verbs.Wake = codes "wake"
thread_word thread_verbs.Fire = codes "fire"
thread_word thread_verbs.Quit = codes "quit"

abbrev pub client_word : ClientVerb → List ℕ
client_word client_verbs.Sub = codes "sub"
client_word client_verbs.Push = codes "push"
client_word client_verbs.Cut = codes "cut"

abbrev pub renew_word : RenewVerb → List ℕ
renew_word renew_verbs.Ask = codes "rask"
renew_word renew_verbs.Exec = codes "rexec"
renew_word renew_verbs.Take = codes "rtake"

abbrev pub verb_word : Verb → List ℕ
verb_word verbs.Begin = codes "begin"
verb_word (verbs.Thread verb) = thread_word verb
verb_word (verbs.Client verb) = client_word verb
verb_word verbs.Tick = codes "tick"
verb_word (verbs.Renew verb) = renew_word verb
verb_word verbs.Force = codes "force"
verb_word verbs.Show = codes "show"

-- the event that is spelled
abbrev pub thread_event : ThreadVerb → ℕ → ℕ → Event
thread_event thread_verbs.Ask client thread = events.Ask client thread
thread_event thread_verbs.Exec client thread = events.Exec client thread
thread_event thread_verbs.Take client thread = events.Take client thread
thread_event thread_verbs.Check client thread = events.Check client thread
thread_event thread_verbs.Wake client thread = events.Wake client thread
thread_event thread_verbs.Fire client thread = events.Fire client thread
thread_event thread_verbs.Quit client thread = events.Quit client thread

abbrev pub client_event : ClientVerb → ℕ → Event
client_event client_verbs.Sub client = events.Sub client
client_event client_verbs.Push client = events.Push client
client_event client_verbs.Cut client = events.Cut client

abbrev pub renew_event : RenewVerb → ℕ → ℕ → WatchKind → List ℕ → Event
renew_event renew_verbs.Ask client thread kind name = events.RenewAsk client thread kind name
renew_event renew_verbs.Exec client thread kind name = events.RenewExec client thread kind name
renew_event renew_verbs.Take client thread kind name = events.RenewTake client thread kind name

abbrev pub event_of : Spelled → Event
event_of (Begin who mode want) = events.Begin who.client who.thread mode want
event_of (Thread verb who) = thread_event verb who.client who.thread
event_of (Client verb client) = client_event verb client
event_of (Tick moment) = events.Tick moment
event_of (Renew verb who kind name) = renew_event verb who.client who.thread kind name
event_of (Force name) = events.Force name
event_of Show = events.Show

-- what it does
abbrev pub verb_of : Spelled → Verb
verb_of (Begin who mode want) = verbs.Begin
verb_of (Thread verb who) = verbs.Thread verb
verb_of (Client verb client) = verbs.Client verb
verb_of (Tick moment) = verbs.Tick
verb_of (Renew verb who kind name) = verbs.Renew verb
verb_of (Force name) = verbs.Force
verb_of Show = verbs.Show

-- and the words behind that of the verb
abbrev pub more_words : Spelled → List (List ℕ)
more_words (Begin who mode want) =
    decimal who.client ∷ decimal who.thread ∷ mode_word mode ∷ want_words want
more_words (Thread verb who) = decimal who.client ∷ decimal who.thread ∷ []
more_words (Client verb client) = decimal client ∷ []
more_words (Tick moment) = decimal moment ∷ []
more_words (Renew verb who kind name) = hold_words who.client who.thread kind name
more_words (Force name) = name ∷ []
more_words Show = []

-- what a line can spell
abbrev pub CanSpell : Spelled → Type 0
CanSpell (Begin who mode want) =
    AreNumbers who.client who.thread × CanBegin mode want × IsSpelled want
CanSpell (Thread verb who) = AreNumbers who.client who.thread
CanSpell (Client verb client) = IsNumber client
CanSpell (Tick moment) = moment ≤ last_moment
CanSpell (Renew verb who kind name) = AreNumbers who.client who.thread × IsName name
CanSpell (Force name) = IsName name
CanSpell Show = Unit {0}

-- these words begin with those behind the verb, and the rest stands behind them
pub record Completes (verb : Verb) (words : List (List ℕ)) (spelled : Spelled)
    (rest : List (List ℕ)) : Type 0 where
  pub verb_is : verb_of spelled ≡ verb
  pub text : words ≡ more_words spelled ++ rest
  pub can : CanSpell spelled

-- these words begin with those of this event, and the rest stands behind them
pub record Spells (words : List (List ℕ)) (spelled : Spelled) (rest : List (List ℕ)) : Type 0 where
  pub text : words ≡ verb_word (verb_of spelled) ∷ more_words spelled ++ rest
  pub can : CanSpell spelled

-- so many milliseconds a request can wait
abbrev pub IsWait : ℕ → Type 0
IsWait millis = (1 ≤ millis) × (millis ≤ longest_lease)

-- what the word of a mode can say, whatever the function
abbrev pub IsMode : Mode → Type 0
IsMode modes.Once = Unit {0}
IsMode (modes.For millis) = IsWait millis
IsMode modes.Long = Unit {0}

-- what a function of these arguments is given, as words can spell it
pub record IsGiven (arguments : Arguments) (want : Want) : Type 0 where
  pub lease : LeaseFits arguments want.lease
  pub number : NumberFits arguments want.number
  pub id : IdFits arguments want.id
  pub amount : HasAmount arguments want
  pub watched : FitsLease arguments want.lease

-- a client and a thread within the limits
abbrev pub AreWithin : Who → Type 0
AreWithin who = IsClient who.client × IsThread who.thread

-- what the line of an event is, by its number: one too many where it or the event is outside the
-- limits
abbrev pub IsLimited : ℕ → Event → ScheduleLine → Type 0
IsLimited number event (lines.Event e) = (e ≡ event) × IsWithin event × (number ≤ event_limit)
IsLimited number event lines.Bad = ⊥
IsLimited number event lines.TooMany = ¬ (IsWithin event × (number ≤ event_limit))
