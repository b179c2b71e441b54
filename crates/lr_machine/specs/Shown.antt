-- What is shown of each event: the step table's first half.
use Rattle.std.specs.Prelude.{ℕ, ◌+◌, List, [], ◌∷◌, ◌++◌, length, nat_lt, Option, Some, None, if◌then◌else◌}
use Rattle.std.specs.Option.{option_map}
use Rattle.lr_limits.specs.Limits.{client_limit, thread_limit}
use Rattle.lr_names.specs.Channel.{channel_wakes}
use Rattle.lr_names.specs.declared.post.Post.{Post}
use Rattle.lr_names.specs.declared.post.Push.{Push}
use Rattle.lr_names.specs.declared.post.Push.TheVariants.{Subscribed, Unsubscribed, Message}
use Rattle.lr_objects.specs.declared.op.Op.{Op}
use Rattle.lr_objects.specs.declared.reply.Reply.{Reply}
use Rattle.lr_model.specs.Answer.{reply_of, post_of}
use Rattle.lr_model.specs.Board.{Board, Connection, reached_by, has_room, with_channel, without_channel, numbers_below}
use Rattle.lr_model.specs.History.{State}
use Rattle.lr_model.specs.Moment.{later}
use Rattle.lr_waiting.specs.declared.latch.Order.{Order}
use Rattle.lr_waiting.specs.declared.stand.Stand.{Stand}
use Rattle.lr_waiting.specs.declared.stand.Standing.{Standing}
use Rattle.lr_waiting.specs.declared.told.CheckedStep.{CheckedStep}
use Rattle.lr_waiting.specs.declared.told.CheckedStep.TheVariants as looks
use Rattle.lr_waiting.specs.declared.told.GaveUp.{GaveUp}
use Rattle.lr_waiting.specs.declared.told.GaveUp.TheVariants as ends
use Rattle.lr_waiting.specs.declared.told.Taken.{Taken}
use Rattle.lr_waiting.specs.declared.told.Taken.TheVariants as takes
use Rattle.lr_waiting.specs.declared.told.WokenStep.{WokenStep}
use Rattle.lr_waiting.specs.declared.told.WokenStep.TheVariants as wakes
use Rattle.lr_waiting.specs.declared.waiter.Asking.{Asking}
use Rattle.lr_waiting.specs.declared.waiter.Phase.TheVariants as phases
use Rattle.lr_waiting.specs.declared.watch.RenewFault.{RenewFault}
use Rattle.lr_waiting.specs.declared.watch.RenewFault.TheVariants.{NoWatch, Renewing, NotDue}
use Rattle.lr_waiting.specs.declared.watch.RenewTaken.{RenewTaken}
use Rattle.lr_waiting.specs.declared.watch.Renewal.{Renewal}
use Rattle.lr_waiting.specs.declared.watch.WatchKey.{WatchKey}
use Rattle.lr_waiting.specs.Client.{Client, phase_of}
use Rattle.lr_waiting.specs.Latch.{told_of_message, deliver_in}
use Rattle.lr_waiting.specs.Session.{Session, begin_row, ask_row, fire_row, quit_row}
use Rattle.lr_waiting.specs.Stand.{stand_of}
use Rattle.lr_waiting.specs.Told.{taken_by, look_by, wakeup_by, end_by, woken_by_acknowledgement}
use Rattle.lr_waiting.specs.Watchdog.{renew_fault, renewal_taken_by, is_renewed}
use Rattle.lr_machine.specs.declared.event.Event.{Event}
use Rattle.lr_machine.specs.declared.event.Event.TheVariants as events
use Rattle.lr_machine.specs.declared.shown.Found.{Found}
use Rattle.lr_machine.specs.declared.shown.Found.TheVariants as found
use Rattle.lr_machine.specs.declared.shown.Ordered.{Ordered}
use Rattle.lr_machine.specs.declared.shown.Reached.{Reached}
use Rattle.lr_machine.specs.declared.shown.Shown.{Shown}
use Rattle.lr_machine.specs.declared.shown.Shown.TheVariants as shows
use Rattle.lr_machine.specs.RepliedValue.{RepliedValue}
use Rattle.lr_machine.specs.World.{World, state_of, connection_of, force_of, asking_of, hold_key, renewing_in, renewal_for, order_for, item_for, dropped_at}

-- the phase in which an event finds a thread
abbrev pub found_at : World → ℕ → ℕ → Found
found_at world c t = found.Phase (phase_of (world.clients c) t)

-- of an event that gives a value, or that doesn't apply
abbrev pub shown_of : {A : Type 0} → (A → Shown) → Option A → Found → Shown
shown_of show (Some told) found = show told
shown_of show None found = shows.No found

-- of a step of a client's core
abbrev pub shown_step : Shown → Option Session → Found → Shown
shown_step shown (Some session) found = shown
shown_step shown None found = shows.No found

-- how many connections the message of a call reaches
abbrev pub reached_post : Board → Option Post → Option Reached
reached_post board post =
    option_map (λ p. record { channel = p.channel; connections = reached_by p board }) post

-- of a call that the server runs at a moment
abbrev pub replied_at : State → ℕ → Op → RepliedValue
replied_at state moment op = record {
  reply = reply_of state.objects moment op;
  post = reached_post state.board (post_of state.objects moment op);
  cut = dropped_at state moment op;
}

abbrev pub shown_call : World → Op → Shown
shown_call world op = shows.Replied (replied_at (state_of world) world.moment op)

abbrev pub shown_exec : World → Option Asking → Found → Shown
shown_exec world (Some asking) found = shown_call world asking.op
shown_exec world None found = shows.No found

-- of a reply that a thread takes
abbrev pub shown_taken : Taken → Shown
shown_taken (takes.Done reply) = shows.Done reply
shown_taken takes.Joining = shows.Joining
shown_taken (takes.Ready ticket) = shows.Ready
shown_taken (takes.Refused due) = shows.Refused due

abbrev pub taken_from : ℕ → Option Reply → Session → Option Taken
taken_from thread None session = None
taken_from thread (Some reply) session = taken_by thread reply session

-- of a thread that looks before it sleeps
abbrev pub shown_look : CheckedStep → Shown
shown_look (looks.Permit ticket) = shows.ReadyByPermit
shown_look (looks.Broadcast ticket) = shows.ReadyByBroadcast
shown_look (looks.Timer ticket) = shows.ReadyByTimer
shown_look (looks.Asleep due) = shows.Asleep due

-- of a thread that is woken
abbrev pub shown_wakeup : WokenStep → Shown
shown_wakeup (wakes.Permit ticket) = shows.ReadyByPermit
shown_wakeup (wakes.Broadcast ticket) = shows.ReadyByBroadcast

-- of a thread that gives up
abbrev pub shown_end : GaveUp → Shown
shown_end ends.Done = shows.Quit
shown_end (ends.Leaving ticket) = shows.Leaving

-- how many channels a connection has after an order
abbrev pub channels_after : Order → Connection → ℕ
channels_after order connection =
    if order.subscribe then length (with_channel order.channel connection)
    else length (without_channel order.channel connection)

-- of an order that the server gets: a client whose connection takes no more is cut off
abbrev pub ordered_at : Connection → ℕ → Order → Ordered
ordered_at connection c order =
    if has_room connection
    then record { order = order; channels = channels_after order connection; cut = None }
    else record { order = order; channels = 0; cut = Some c }

-- of an event for which a client that isn't cut off has nothing
abbrev pub found_for : Client → Found → Found
found_for client nothing =
    if client.session.is_cut then found.Phase phases.Cut else nothing

-- of a renewal that is asked for, or why it can't be
abbrev pub found_fault : RenewFault → Found
found_fault NoWatch = found.Watch
found_fault Renewing = found.Renewing
found_fault (NotDue due) = found.Due

abbrev pub shown_fault : Client → Option RenewFault → Shown
shown_fault client None = shows.RenewAsked
shown_fault client (Some fault) = shows.No (found_for client (found_fault fault))

-- of a renewal that the server runs
abbrev pub shown_renew : World → ℕ → WatchKey → Option Renewal → Shown
shown_renew world c key (Some renewal) = shown_call world (renewal_for world c key)
shown_renew world c key None = shows.No (found_for (world.clients c) found.Renewal)

-- of the reply to a renewal that a client takes
abbrev pub renewed_from : WatchKey → Option Reply → Session → Option RenewTaken
renewed_from key None session = None
renewed_from key (Some reply) session =
    renewal_taken_by (is_renewed reply) key session.watchdog

-- of an item that the server has sent
abbrev pub shown_item : Session → Push → Shown
shown_item session (Subscribed channel channels) =
    shows.Acknowledged channel (length (woken_by_acknowledgement channel session))
shown_item session (Unsubscribed channel channels) = shows.Left channel
shown_item session (Message channel wakes) =
    let wakes = channel_wakes channel.kind in
    shows.Delivered channel
    (told_of_message wakes (deliver_in wakes (session.latches.entries channel)))

-- of a client that is cut off, or was before
abbrev pub shown_cut : Client → Shown
shown_cut client =
    if client.session.is_cut then shows.No (found.Phase phases.Cut) else shows.Cut

-- What stands for the threads that sleep.

abbrev pub stand_in : World → ℕ → ℕ → Option Stand
stand_in world c t =
    stand_of (state_of world) world.moment (connection_of world c).outbox (world.clients c) t

abbrev pub standing_at : ℕ → ℕ → Option Stand → List Standing
standing_at c t None = []
standing_at c t (Some stand) = record { client = c; thread = t; stand = stand } ∷ []

abbrev pub standings_in : World → ℕ → List ℕ → List Standing
standings_in world c [] = []
standings_in world c (t ∷ threads) =
    standing_at c t (stand_in world c t) ++ standings_in world c threads

abbrev pub standings_among : World → List ℕ → List ℕ → List Standing
standings_among world threads [] = []
standings_among world threads (c ∷ clients) =
    standings_in world c threads ++ standings_among world threads clients

-- in order of clients, and then of threads
abbrev pub standings_of : World → List Standing
standings_of world =
    standings_among world (numbers_below (thread_limit + 1) (nat_lt 0))
    (numbers_below (client_limit + 1) (nat_lt 0))

abbrev pub shown : World → Event → Shown
shown world (events.Begin c t mode want) =
    shown_step shows.Fresh (begin_row t mode want (world.clients c).session) (found_at world c t)
shown world (events.Ask c t) =
    shown_step shows.Asked (ask_row t world.moment (world.clients c).session) (found_at world c t)
shown world (events.Exec c t) = shown_exec world (asking_of world c t) (found_at world c t)
shown world (events.Take c t) =
    shown_of shown_taken (taken_from t ((world.clients c).replies t) (world.clients c).session)
    (found_at world c t)
shown world (events.Check c t) =
    shown_of shown_look (look_by t world.moment (world.clients c).session) (found_at world c t)
shown world (events.Wake c t) =
    shown_of shown_wakeup (wakeup_by t (world.clients c).session) (found_at world c t)
shown world (events.Fire c t) =
    shown_step shows.ReadyByTimer (fire_row t world.moment (world.clients c).session)
    (found_at world c t)
shown world (events.Quit c t) =
    let session = (world.clients c).session in
    shown_step (shown_end (end_by t session)) (quit_row t session) (found_at world c t)
shown world (events.Sub c) =
    shown_of (λ order. shows.Ordered (ordered_at (connection_of world c) c order))
    (order_for world c) (found_for (world.clients c) found.Orders)
shown world (events.Push c) =
    shown_of (shown_item (world.clients c).session) (item_for world c)
    (found_for (world.clients c) found.Pushes)
shown world (events.Tick moment) = shows.Moment (later world.moment moment)
shown world (events.RenewAsk c t kind name) =
    let client = world.clients c in
    shown_fault client
    (renew_fault world.moment (hold_key c t kind name) client.session.watchdog)
shown world (events.RenewExec c t kind name) =
    let key = hold_key c t kind name in
    shown_renew world c key (renewing_in world c key)
shown world (events.RenewTake c t kind name) =
    let key = hold_key c t kind name in
    let client = world.clients c in
    shown_of shows.RenewTaken (renewed_from key (client.renewed key) client.session)
    (found_for client found.Renewal)
shown world (events.Force name) = shown_call world (force_of name)
shown world (events.Cut c) = shown_cut (world.clients c)
shown world events.Show = shows.Standings (standings_of world)
