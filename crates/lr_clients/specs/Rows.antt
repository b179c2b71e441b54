-- The rows of the step table that are about one client alone.
use Rattle.std.specs.Prelude.{ℕ, Option, Some, None}
use Rattle.std.specs.Option.{option_map}
use Rattle.lr_objects.specs.declared.op.Op.{Op}
use Rattle.lr_waiting.specs.declared.watch.Renewal.{Renewal}
use Rattle.lr_waiting.specs.declared.watch.WatchKey.{WatchKey}
use Rattle.lr_waiting.specs.Client.{Client, client_row, take_reply, phase_of, renewing_of, take_renewed}
use Rattle.lr_waiting.specs.Session.{begin_row, ask_row, check_row, wake_row, fire_row, quit_row, renew_row}
use Rattle.lr_waiting.specs.Told.{look_by, wakeup_by, end_by}
use Rattle.lr_waiting.specs.Watchdog.{renew_fault, renewal_op}
use Rattle.lr_machine.specs.declared.event.Event.{Event}
use Rattle.lr_machine.specs.declared.event.Event.TheVariants as events
use Rattle.lr_machine.specs.declared.shown.Found.{Found}
use Rattle.lr_machine.specs.declared.shown.Found.TheVariants as found
use Rattle.lr_machine.specs.declared.shown.Shown.{Shown}
use Rattle.lr_machine.specs.declared.shown.Shown.TheVariants as shows
use Rattle.lr_machine.specs.Shown.{found_for, renewed_from, shown_of, shown_step, shown_taken, taken_from, shown_look, shown_wakeup, shown_end, shown_fault}
use Rattle.lr_machine.specs.World.{hold_key, unless_cut}

-- the client of an event that is a step of its own, which nobody else notices
abbrev pub client_alone : Event → Option ℕ
client_alone (events.Begin client thread mode want) = Some client
client_alone (events.Ask client thread) = Some client
client_alone (events.Take client thread) = Some client
client_alone (events.Check client thread) = Some client
client_alone (events.Wake client thread) = Some client
client_alone (events.Fire client thread) = Some client
client_alone (events.Quit client thread) = Some client
client_alone (events.RenewAsk client thread kind name) = Some client
client_alone (events.RenewTake client thread kind name) = Some client
client_alone _ = None

-- the client after such an event at a moment, where it applies
abbrev pub row_by : ℕ → Event → Client → Option Client
row_by moment (events.Begin c t mode want) client = client_row (begin_row t mode want) client
row_by moment (events.Ask c t) client = client_row (ask_row t moment) client
row_by moment (events.Take c t) client = take_reply t client
row_by moment (events.Check c t) client = client_row (check_row t moment) client
row_by moment (events.Wake c t) client = client_row (wake_row t) client
row_by moment (events.Fire c t) client = client_row (fire_row t moment) client
row_by moment (events.Quit c t) client = client_row (quit_row t) client
row_by moment (events.RenewAsk c t kind name) client =
    client_row (renew_row (hold_key c t kind name) moment) client
row_by moment (events.RenewTake c t kind name) client =
    take_renewed (hold_key c t kind name) client
row_by moment _ client = None

-- where it doesn't apply, the client stays as it is
abbrev pub row_or : Client → Option Client → Client
row_or client None = client
row_or client (Some next) = next

-- the phase in which such an event finds a thread
abbrev pub found_in : Client → ℕ → Found
found_in client thread = found.Phase (phase_of client thread)

-- what is shown of it
abbrev pub shown_by : ℕ → Event → Client → Shown
shown_by moment (events.Begin c t mode want) client =
    shown_step shows.Fresh (begin_row t mode want client.session) (found_in client t)
shown_by moment (events.Ask c t) client =
    shown_step shows.Asked (ask_row t moment client.session) (found_in client t)
shown_by moment (events.Take c t) client =
    shown_of shown_taken (taken_from t (client.replies t) client.session) (found_in client t)
shown_by moment (events.Check c t) client =
    shown_of shown_look (look_by t moment client.session) (found_in client t)
shown_by moment (events.Wake c t) client =
    shown_of shown_wakeup (wakeup_by t client.session) (found_in client t)
shown_by moment (events.Fire c t) client =
    shown_step shows.ReadyByTimer (fire_row t moment client.session) (found_in client t)
shown_by moment (events.Quit c t) client =
    shown_step (shown_end (end_by t client.session)) (quit_row t client.session)
    (found_in client t)
shown_by moment (events.RenewAsk c t kind name) client =
    shown_fault client (renew_fault moment (hold_key c t kind name) client.session.watchdog)
shown_by moment (events.RenewTake c t kind name) client =
    let key = hold_key c t kind name in
    shown_of shows.RenewTaken (renewed_from key (client.renewed key) client.session)
    (found_for client found.Renewal)
shown_by moment _ client = shows.Moment moment

-- the call by which the server is to renew a hold of a client: none where the client hasn't asked
-- for it, and where the server has run it
abbrev pub renewal_in : Client → WatchKey → Option Op
renewal_in client key =
    option_map (λ (renewal : Renewal). renewal_op key client.session.watchdog.lease)
    (unless_cut client (renewing_of client key))
