-- Who acts in the history, on which connection, and how: what an event makes the server do, and for
-- whom, where the event applies.
use Rattle.std.specs.Prelude.{ℕ, List, [], ◌∷◌, ◌++◌, Option, Some, None, if◌then◌else◌}
use Rattle.lr_names.specs.declared.post.Push.{Push}
use Rattle.lr_objects.specs.declared.op.Op.{Op}
use Rattle.lr_model.specs.declared.entry.Act.TheVariants.{Call, Close, Drain}
use Rattle.lr_model.specs.Board.{has_room}
use Rattle.lr_model.specs.History.{Deed}
use Rattle.lr_waiting.specs.declared.latch.Order.{Order}
use Rattle.lr_waiting.specs.declared.waiter.Asking.{Asking}
use Rattle.lr_waiting.specs.declared.watch.Renewal.{Renewal}
use Rattle.lr_waiting.specs.declared.watch.WatchKey.{WatchKey}
use Rattle.lr_machine.specs.declared.event.Event.{Event}
use Rattle.lr_machine.specs.declared.event.Event.TheVariants as events
use Rattle.lr_machine.specs.Clients.{command_connection, subscription_connection, caller_of, client_caller, operator, operator_connection}
use Rattle.lr_machine.specs.World.{World, state_of, connection_of, force_of, asking_of, hold_key, renewing_in, renewal_for, order_for, item_for, act_of, dropped_at, next}

-- a client that is cut off closes its two connections, that for its calls first
abbrev pub deeds_of_cut : List ℕ → List Deed
deeds_of_cut [] = []
deeds_of_cut (c ∷ clients) =
    record { caller = client_caller c; conn = command_connection c; act = Close }
    ∷ record { caller = client_caller c; conn = subscription_connection c; act = Close }
    ∷ deeds_of_cut clients

-- a call, and the clients that its message drops
abbrev pub deeds_of_call : World → ℕ → ℕ → Op → List Deed
deeds_of_call world caller conn op =
    record { caller = caller; conn = conn; act = Call op }
    ∷ deeds_of_cut (dropped_at (state_of world) world.moment op)

abbrev pub deeds_of_exec : World → ℕ → ℕ → Option Asking → List Deed
deeds_of_exec world c t (Some asking) =
    deeds_of_call world (caller_of c t) (command_connection c) asking.op
deeds_of_exec world c t None = []

-- a renewal, which the client makes for its thread
abbrev pub deeds_of_renewal : World → ℕ → WatchKey → Option Renewal → List Deed
deeds_of_renewal world c key (Some renewal) =
    deeds_of_call world (client_caller c) (command_connection c) (renewal_for world c key)
deeds_of_renewal world c key None = []

-- an order, or the end of a client whose connection takes no more
abbrev pub deeds_of_order : World → ℕ → Option Order → List Deed
deeds_of_order world c None = []
deeds_of_order world c (Some order) =
    if has_room (connection_of world c)
    then record {
      caller = client_caller c;
      conn = subscription_connection c;
      act = act_of order;
    } ∷ []
    else deeds_of_cut (c ∷ [])

abbrev pub deeds_of_item : ℕ → Option Push → List Deed
deeds_of_item c None = []
deeds_of_item c (Some push) =
    record { caller = client_caller c; conn = subscription_connection c; act = Drain 1 } ∷ []

abbrev pub deeds_of_event : World → Event → List Deed
deeds_of_event world (events.Exec c t) = deeds_of_exec world c t (asking_of world c t)
deeds_of_event world (events.Sub c) = deeds_of_order world c (order_for world c)
deeds_of_event world (events.Push c) = deeds_of_item c (item_for world c)
deeds_of_event world (events.RenewExec c t kind name) =
    let key = hold_key c t kind name in
    deeds_of_renewal world c key (renewing_in world c key)
deeds_of_event world (events.Force name) =
    deeds_of_call world operator operator_connection (force_of name)
deeds_of_event world (events.Cut c) =
    if (world.clients c).session.is_cut then [] else deeds_of_cut (c ∷ [])
deeds_of_event world _ = []

-- what these events make the server do, in their order
abbrev pub deeds_made : World → List Event → List Deed
deeds_made world [] = []
deeds_made world (event ∷ events) =
    deeds_of_event world event ++ deeds_made (next world event) events
