-- What the server does for a client: it gets an order, or hands an item out.
use Rattle.std.specs.Prelude.{ℕ, List, Option, Some, None, if◌then◌else◌}
use Rattle.lr_names.specs.declared.post.Push.{Push}
use Rattle.lr_model.specs.declared.entry.Act.TheVariants.{Drain}
use Rattle.lr_model.specs.declared.entry.Entry.{Entry}
use Rattle.lr_model.specs.Board.{Connection, has_room}
use Rattle.lr_model.specs.History.{after, entry_of}
use Rattle.lr_waiting.specs.declared.latch.Order.{Order}
use Rattle.lr_machine.specs.Clients.{client_caller, subscription_connection}
use Rattle.lr_machine.specs.Shown.{channels_after}
use Rattle.lr_machine.specs.World.{act_of, first_state}
use Rattle.lr_server.specs.Server.{ServerValue, with_entry}

-- the connection on which a client gets messages, after these entries
abbrev pub heard_on : List Entry → ℕ → Connection
heard_on entries client = (after first_state entries).board (subscription_connection client)

-- how many channels a connection has after an order: none where it takes no more
abbrev pub channels_sent : Order → Connection → Option ℕ
channels_sent order connection =
    if has_room connection then Some (channels_after order connection) else None

-- the server after an order of a client
abbrev pub with_order : ServerValue → ℕ → ℕ → Order → ServerValue
with_order server moment client order =
    if has_room (heard_on server.entries client)
    then with_entry server
    (entry_of moment (client_caller client) (subscription_connection client) (act_of order))
    else server

-- the server after it has handed an item out, where there was one
abbrev pub with_item : ServerValue → ℕ → ℕ → Option Push → ServerValue
with_item server moment client None = server
with_item server moment client (Some item) =
    with_entry server
    (entry_of moment (client_caller client) (subscription_connection client) (Drain 1))
