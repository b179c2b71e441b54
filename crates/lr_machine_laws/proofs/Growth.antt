-- What an event adds to the history: what it makes the server do, and nothing else.
use Rattle.std.proofs.Common.{◌≡◌, ℕ, List, [], ◌∷◌, ◌++◌, Bool, true, false, Option, Some, None, if◌then◌else◌, refl, sym, ap, ◌∙◌, append-nil, append_assoc}
use Rattle.lr_names.specs.declared.post.Push.{Push}
use Rattle.lr_objects.specs.declared.op.Op.{Op}
use Rattle.lr_model.specs.declared.entry.Entry.{Entry}
use Rattle.lr_model.specs.declared.entry.Act.TheVariants.{Call, Drain}
use Rattle.lr_model.specs.Board.{has_room}
use Rattle.lr_model.specs.History.{Deed, call_entry, entry_of, deeds_of}
use Rattle.lr_waiting.specs.declared.latch.Order.{Order}
use Rattle.lr_waiting.specs.declared.waiter.Asking.{Asking}
use Rattle.lr_waiting.specs.declared.watch.Renewal.{Renewal}
use Rattle.lr_waiting.specs.declared.watch.WatchKey.{WatchKey}
use Rattle.lr_waiting.specs.Session.{order_taken}
use Rattle.lr_machine.specs.declared.event.Event.{Event}
use Rattle.lr_machine.specs.declared.event.Event.TheVariants.{Exec, Sub, Push as push, RenewExec, Force, Cut}
use Rattle.lr_machine.specs.Clients.{command_connection, subscription_connection, operator, operator_connection, caller_of, client_caller}
use Rattle.lr_machine.specs.Deeds.{deeds_of_cut, deeds_of_call, deeds_of_exec, deeds_of_renewal, deeds_of_order, deeds_of_item, deeds_of_event}
use Rattle.lr_machine.specs.World.{World, state_of, connection_of, force_of, asking_of, order_for, item_for, next_step, with_entry, closes_of_all, with_cut, dropped_at, with_call, answered_in, next_exec, hold_key, renewing_in, renewal_for, renewed_in, next_renewal, act_of, next_order, next_item, next}

pub deeds_of-append : (xs ys : List Entry) → deeds_of (xs ++ ys) ≡ deeds_of xs ++ deeds_of ys
deeds_of-append [] ys = refl
deeds_of-append (x ∷ xs) ys =
    ap (λ (l : List Deed). record { caller = x.caller; conn = x.conn; act = x.act } ∷ l)
    (deeds_of-append xs ys)

deeds_of-closes : (moment : ℕ) (cs : List ℕ)
    → deeds_of (closes_of_all moment cs) ≡ deeds_of_cut cs
deeds_of-closes moment [] = refl
deeds_of-closes moment (c ∷ cs) =
    ap (λ (deeds : List Deed). deeds_of_cut (c ∷ []) ++ deeds) (deeds_of-closes moment cs)

deeds_of-call : (world : World) (caller conn : ℕ) (op : Op)
    → deeds_of (with_call caller conn op world).entries
    ≡ deeds_of world.entries ++ deeds_of_call world caller conn op
deeds_of-call world caller conn op =
    ap deeds_of
    (append_assoc world.entries (call_entry world.moment caller conn op ∷ [])
    (closes_of_all world.moment (dropped_at (state_of world) world.moment op)))
    ∙ deeds_of-append world.entries
    (call_entry world.moment caller conn op
    ∷ closes_of_all world.moment (dropped_at (state_of world) world.moment op))
    ∙ ap
    (λ (deeds : List Deed). deeds_of world.entries
    ++ record { caller = caller; conn = conn; act = Call op } ∷ deeds)
    (deeds_of-closes world.moment (dropped_at (state_of world) world.moment op))

deeds_of-exec : (world : World) (c t : ℕ) (asking : Option Asking)
    → deeds_of (next_exec world c t asking).entries
    ≡ deeds_of world.entries ++ deeds_of_exec world c t asking
deeds_of-exec world c t None = sym (append-nil (deeds_of world.entries))
deeds_of-exec world c t (Some asking) =
    deeds_of-call (answered_in world c t asking.op) (caller_of c t) (command_connection c) asking.op

deeds_of-renewal : (world : World) (c : ℕ) (key : WatchKey) (renewal : Option Renewal)
    → deeds_of (next_renewal world c key renewal).entries
    ≡ deeds_of world.entries ++ deeds_of_renewal world c key renewal
deeds_of-renewal world c key None = sym (append-nil (deeds_of world.entries))
deeds_of-renewal world c key (Some renewal) =
    deeds_of-call (renewed_in world c key (renewal_for world c key)) (client_caller c)
    (command_connection c) (renewal_for world c key)

deeds_of-cut : (world : World) (cs : List ℕ)
    → deeds_of (with_cut cs world).entries ≡ deeds_of world.entries ++ deeds_of_cut cs
deeds_of-cut world cs =
    deeds_of-append world.entries (closes_of_all world.moment cs)
    ∙ ap (λ (deeds : List Deed). deeds_of world.entries ++ deeds)
    (deeds_of-closes world.moment cs)

deeds_of-order : (world : World) (c : ℕ) (found : Option Order)
    → deeds_of (next_order world c found).entries
    ≡ deeds_of world.entries ++ deeds_of_order world c found
deeds_of-order world c None = sym (append-nil (deeds_of world.entries))
deeds_of-order world c (Some order) = by (has_room (connection_of world c))
  where
    by : (room : Bool)
        → deeds_of (if room
        then with_entry
        (entry_of world.moment (client_caller c) (subscription_connection c) (act_of order))
        (next_step world c (λ session. Some (order_taken session)))
        else with_cut (c ∷ []) world).entries
        ≡ deeds_of world.entries
        ++ (if room
        then record {
          caller = client_caller c;
          conn = subscription_connection c;
          act = act_of order;
        } ∷ []
        else deeds_of_cut (c ∷ []))
    by true =
        deeds_of-append world.entries
        (entry_of world.moment (client_caller c) (subscription_connection c) (act_of order) ∷ [])
    by false = deeds_of-cut world (c ∷ [])

deeds_of-item : (world : World) (c : ℕ) (found : Option Push)
    → deeds_of (next_item world c found).entries
    ≡ deeds_of world.entries ++ deeds_of_item c found
deeds_of-item world c None = sym (append-nil (deeds_of world.entries))
deeds_of-item world c (Some item) =
    deeds_of-append world.entries
    (entry_of world.moment (client_caller c) (subscription_connection c) (Drain 1) ∷ [])

deeds_of-next_cut : (world : World) (c : ℕ) (cut : Bool)
    → deeds_of (if cut then world else with_cut (c ∷ []) world).entries
    ≡ deeds_of world.entries ++ (if cut then [] else deeds_of_cut (c ∷ []))
deeds_of-next_cut world c true = sym (append-nil (deeds_of world.entries))
deeds_of-next_cut world c false = deeds_of-cut world (c ∷ [])

-- an event makes the server do what it asks for, and nothing else
pub deeds_of-next : (world : World) (event : Event)
    → deeds_of (next world event).entries ≡ deeds_of world.entries ++ deeds_of_event world event
deeds_of-next world (Exec c t) = deeds_of-exec world c t (asking_of world c t)
deeds_of-next world (Sub c) = deeds_of-order world c (order_for world c)
deeds_of-next world (push c) = deeds_of-item world c (item_for world c)
deeds_of-next world (RenewExec c t kind name) =
    let key = hold_key c t kind name in deeds_of-renewal world c key (renewing_in world c key)
deeds_of-next world (Force name) = deeds_of-call world operator operator_connection (force_of name)
deeds_of-next world (Cut c) = deeds_of-next_cut world c (world.clients c).session.is_cut
deeds_of-next world _ = sym (append-nil (deeds_of world.entries))
