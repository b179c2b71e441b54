-- A server, its clients and a clock as one machine, and what each event of a schedule changes in it:
-- the step table's second half. The rows of one client stand in lr_waiting.
use Rattle.std.specs.Prelude.{ℕ, ◌==◌, List, [], ◌∷◌, ◌++◌, map, Option, Some, None, slice_get, if◌then◌else◌}
use Rattle.std.specs.List.{list_any}
use Rattle.lr_limits.specs.Limits.{watchdog_lease}
use Rattle.lr_names.specs.declared.post.Post.{Post}
use Rattle.lr_names.specs.declared.post.Push.{Push}
use Rattle.lr_objects.specs.Op.{call_on}
use Rattle.lr_objects.specs.declared.op.Op.{Op}
use Rattle.lr_objects.specs.declared.kinds.Call.TheVariants.{Lock}
use Rattle.lr_objects.specs.declared.lock.LockCall.TheVariants.{Force as force}
use Rattle.lr_model.specs.declared.entry.Act.{Act}
use Rattle.lr_model.specs.declared.entry.Act.TheVariants.{Subscribe, Unsubscribe, Close, Drain}
use Rattle.lr_model.specs.declared.entry.Entry.{Entry}
use Rattle.lr_model.specs.Answer.{reply_of, post_of}
use Rattle.lr_model.specs.Board.{Board, Connection, has_room, dropped_by}
use Rattle.lr_model.specs.History.{State, state_at_start, after, entry_of, call_entry}
use Rattle.lr_model.specs.Moment.{later}
use Rattle.lr_model.specs.Table.{put}
use Rattle.lr_waiting.specs.declared.latch.Order.{Order}
use Rattle.lr_waiting.specs.declared.waiter.Asking.{Asking}
use Rattle.lr_waiting.specs.declared.watch.Renewal.{Renewal}
use Rattle.lr_waiting.specs.declared.watch.WatchKey.{WatchKey}
use Rattle.lr_waiting.specs.declared.watch.WatchKind.{WatchKind}
use Rattle.lr_waiting.specs.Client.{Client, new_client, cut_client, client_row, with_reply, asked_of, take_reply, with_renewed, renewing_of, take_renewed}
use Rattle.lr_waiting.specs.Latch.{first_order_of}
use Rattle.lr_waiting.specs.Session.{Session, begin_row, ask_row, check_row, wake_row, fire_row, quit_row, renew_row, pushed, order_taken}
use Rattle.lr_waiting.specs.Watchdog.{renewal_op}
use Rattle.lr_machine.specs.declared.event.Event.{Event}
use Rattle.lr_machine.specs.declared.event.Event.TheVariants as events
use Rattle.lr_machine.specs.Clients.{client_id, client_at, command_connection, subscription_connection, caller_of, client_caller, operator, operator_connection}

-- a server by its history, a clock, and the clients by their numbers
pub record World : Type 0 where
  pub entries : List Entry
  pub moment : ℕ
  pub clients : ℕ → Client

-- a client before its first request
abbrev pub first_client : ℕ → Client
first_client client = new_client (client_id client) watchdog_lease

-- the server of a world has the connections 0 to 128 open: two for each client, and the operator's
abbrev pub first_state : State
first_state = state_at_start 128

-- before the first event
abbrev pub first_world : World
first_world = record { entries = []; moment = 0; clients = first_client }

-- what the server is now
abbrev pub state_of : World → State
state_of world = after first_state world.entries

-- the connection on which a client gets messages
abbrev pub connection_of : World → ℕ → Connection
connection_of world c = (state_of world).board (subscription_connection c)

-- the call of an operator that takes a lock from whoever holds it
abbrev pub force_of : List ℕ → Op
force_of name = call_on name (Lock force)

-- who was cut off gets on with nothing
abbrev pub unless_cut : {A : Type 0} → Client → Option A → Option A
unless_cut client found = if client.session.is_cut then None else found

-- the call that a thread has sent and the server hasn't run
abbrev pub asking_of : World → ℕ → ℕ → Option Asking
asking_of world c t = unless_cut (world.clients c) (asked_of (world.clients c) t)

-- the hold of a client's thread that a renewal is about
abbrev pub hold_key : ℕ → ℕ → WatchKind → List ℕ → WatchKey
hold_key c t kind name =
    record { owner = record { client = client_id c; thread = t }; kind = kind; name = name }

-- the renewal that a client has asked for and the server hasn't run
abbrev pub renewing_in : World → ℕ → WatchKey → Option Renewal
renewing_in world c key = unless_cut (world.clients c) (renewing_of (world.clients c) key)

-- its call, with the lease of the client's watchdog
abbrev pub renewal_for : World → ℕ → WatchKey → Op
renewal_for world c key = renewal_op key (world.clients c).session.watchdog.lease

-- the oldest order of a client
abbrev pub order_for : World → ℕ → Option Order
order_for world c =
    unless_cut (world.clients c) (first_order_of (world.clients c).session.latches)

-- the oldest item that the server has sent a client
abbrev pub item_for : World → ℕ → Option Push
item_for world c =
    unless_cut (world.clients c) (slice_get (connection_of world c).outbox 0)

-- What an event changes.

-- the clients after a row of one of them: where the event doesn't apply all stay
abbrev pub clients_after : (ℕ → Client) → ℕ → Option Client → ℕ → Client
clients_after clients c (Some client) = put ◌==◌ clients c client
clients_after clients c None = clients

-- the world after a row of a client
abbrev pub next_row : World → ℕ → Option Client → World
next_row world c row = record world { clients = clients_after world.clients c row }

-- and after a step of its core
abbrev pub next_step : World → ℕ → (Session → Option Session) → World
next_step world c row = next_row world c (client_row row (world.clients c))

-- the world after the server did one thing more
abbrev pub with_entry : Entry → World → World
with_entry entry world = record world { entries = world.entries ++ entry ∷ [] }

-- both connections of a client are closed, that for its calls first
abbrev pub closes_of : ℕ → ℕ → List Entry
closes_of moment c =
    entry_of moment (client_caller c) (command_connection c) Close
    ∷ entry_of moment (client_caller c) (subscription_connection c) Close ∷ []

abbrev pub closes_of_all : ℕ → List ℕ → List Entry
closes_of_all moment [] = []
closes_of_all moment (c ∷ clients) = closes_of moment c ++ closes_of_all moment clients

-- these clients are cut off, and all others stay as they are
abbrev pub cut_among : List ℕ → (ℕ → Client) → ℕ → Client
cut_among cut clients c =
    if list_any (λ other. c == other) cut then cut_client (clients c) else clients c

abbrev pub with_cut : List ℕ → World → World
with_cut cut world = record world {
  entries = world.entries ++ closes_of_all world.moment cut;
  clients = cut_among cut world.clients;
}

-- the clients that a message drops, since their outboxes are full
abbrev pub clients_dropped : Board → Option Post → List ℕ
clients_dropped board None = []
clients_dropped board (Some post) = map client_at (dropped_by post board)

abbrev pub dropped_at : State → ℕ → Op → List ℕ
dropped_at state moment op = clients_dropped state.board (post_of state.objects moment op)

-- The server runs a call. Who reads too slowly for its message is cut off.
abbrev pub with_call : ℕ → ℕ → Op → World → World
with_call caller conn op world =
    with_cut (dropped_at (state_of world) world.moment op)
    (with_entry (call_entry world.moment caller conn op) world)

-- the server runs the call of a thread, whose reply waits for it then
abbrev pub answered_in : World → ℕ → ℕ → Op → World
answered_in world c t op =
    let reply = reply_of (state_of world).objects world.moment op in
    next_row world c (Some (with_reply t (Some reply) (world.clients c)))

abbrev pub next_exec : World → ℕ → ℕ → Option Asking → World
next_exec world c t (Some asking) =
    with_call (caller_of c t) (command_connection c) asking.op (answered_in world c t asking.op)
next_exec world c t None = world

-- the server runs a renewal, whose reply waits for the client then
abbrev pub renewed_in : World → ℕ → WatchKey → Op → World
renewed_in world c key op =
    let reply = reply_of (state_of world).objects world.moment op in
    next_row world c (Some (with_renewed key (Some reply) (world.clients c)))

abbrev pub next_renewal : World → ℕ → WatchKey → Option Renewal → World
next_renewal world c key None = world
next_renewal world c key (Some renewal) =
    let op = renewal_for world c key in
    with_call (client_caller c) (command_connection c) op (renewed_in world c key op)

-- what an order makes the server do
abbrev pub act_of : Order → Act
act_of order = if order.subscribe then Subscribe order.channel else Unsubscribe order.channel

-- The server gets an order. A client whose connection takes no more is cut off.
abbrev pub next_order : World → ℕ → Option Order → World
next_order world c None = world
next_order world c (Some order) =
    if has_room (connection_of world c)
    then with_entry
    (entry_of world.moment (client_caller c) (subscription_connection c) (act_of order))
    (next_step world c (λ session. Some (order_taken session)))
    else with_cut (c ∷ []) world

-- a client takes an item that the server has sent
abbrev pub next_item : World → ℕ → Option Push → World
next_item world c None = world
next_item world c (Some push) =
    with_entry (entry_of world.moment (client_caller c) (subscription_connection c) (Drain 1))
    (next_step world c (λ session. Some (pushed push session)))

-- a client is cut off, unless it was before
abbrev pub next_cut : World → ℕ → World
next_cut world c =
    if (world.clients c).session.is_cut then world else with_cut (c ∷ []) world

abbrev pub next : World → Event → World
next world (events.Begin c t mode want) = next_step world c (begin_row t mode want)
next world (events.Ask c t) = next_step world c (ask_row t world.moment)
next world (events.Exec c t) = next_exec world c t (asking_of world c t)
next world (events.Take c t) = next_row world c (take_reply t (world.clients c))
next world (events.Check c t) = next_step world c (check_row t world.moment)
next world (events.Wake c t) = next_step world c (wake_row t)
next world (events.Fire c t) = next_step world c (fire_row t world.moment)
next world (events.Quit c t) = next_step world c (quit_row t)
next world (events.Sub c) = next_order world c (order_for world c)
next world (events.Push c) = next_item world c (item_for world c)
next world (events.Tick moment) = record world { moment = later world.moment moment }
next world (events.RenewAsk c t kind name) =
    next_step world c (renew_row (hold_key c t kind name) world.moment)
next world (events.RenewExec c t kind name) =
    let key = hold_key c t kind name in
    next_renewal world c key (renewing_in world c key)
next world (events.RenewTake c t kind name) =
    next_row world c (take_renewed (hold_key c t kind name) (world.clients c))
next world (events.Force name) = with_call operator operator_connection (force_of name) world
next world (events.Cut c) = next_cut world c
next world events.Show = world

-- the world after these events
abbrev pub world_after : World → List Event → World
world_after world [] = world
world_after world (event ∷ events) = world_after (next world event) events
