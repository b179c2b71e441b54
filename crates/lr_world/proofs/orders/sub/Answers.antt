use Rattle.std.proofs.Common.{◌≡◌, Bool, ◌∷◌, [], Some, if◌then◌else◌, sym, ap, ◌∙◌}
use Rattle.lr_model.specs.History.{entry_of}
use Rattle.lr_waiting.specs.Session.{order_taken}
use Rattle.lr_machine.specs.Clients.{client_caller, subscription_connection}
use Rattle.lr_machine.specs.World.{World, act_of, next_order, next_step, with_cut, with_entry}
use Rattle.lr_server.specs.Server.{ServerValue, with_entry as with_entry_of}
use Rattle.lr_world.specs.Steps.{heard_on}
use Rattle.lr_world.specs.World.{world_with}
use Rattle.lr_world.proofs.OrderLaws.{none-sent, room-sent}
use Rattle.lr_world.proofs.orders.sub.Goals as goal

pub returns-in_default-clause-next : goal.returns-in_default-clause-next
returns-in_default-clause-next c =
    ap (next_order (world_with c.args.server.now.entries c.args.moment c.args.clients.now)
    c.args.client) (sym c.in_default.is ∙ c.first_order.ensures)

pub returns-in_default-2-clause-next : goal.returns-in_default-2-clause-next
returns-in_default-2-clause-next c =
    let world : World =
    world_with c.args.server.now.entries c.args.moment c.args.clients.now in
    let full =
    none-sent c.in-Some.order (heard_on c.args.server.now.entries c.args.client)
    (sym c.in_default-2.is ∙ c.in_ok-channels.ensures.sent) in
    let same : c.send.new.server ≡ c.args.server.now =
    c.in_ok-channels.ensures.entry
    ∙ ap (λ (b : Bool). if b then with_entry_of c.args.server.now
    (entry_of c.args.moment (client_caller c.args.client) (subscription_connection c.args.client)
    (act_of c.in-Some.order)) else c.args.server.now) full in
    c.cut_client.ensures.world
    ∙ ap (λ (s : ServerValue). with_cut (c.args.client ∷ [])
    (world_with s.entries c.args.moment c.args.clients.now)) same
    ∙ sym (ap (λ (b : Bool). if b
    then with_entry (entry_of c.args.moment (client_caller c.args.client)
    (subscription_connection c.args.client) (act_of c.in-Some.order))
    (next_step world c.args.client (λ session. Some (order_taken session)))
    else with_cut (c.args.client ∷ []) world) full)
    ∙ ap (next_order world c.args.client) (sym c.in-Some.is ∙ c.first_order.ensures)

pub returns-clause-next : goal.returns-clause-next
returns-clause-next c =
    let world : World =
    world_with c.args.server.now.entries c.args.moment c.args.clients.now in
    let room =
    room-sent c.in-Some.order (heard_on c.args.server.now.entries c.args.client)
    c.in-Some-2.channels (sym c.in-Some-2.is ∙ c.in_ok-channels.ensures.sent) in
    let sent : c.send.new.server ≡ with_entry_of c.args.server.now
    (entry_of c.args.moment (client_caller c.args.client) (subscription_connection c.args.client)
    (act_of c.in-Some.order)) =
    c.in_ok-channels.ensures.entry
    ∙ ap (λ (b : Bool). if b then with_entry_of c.args.server.now
    (entry_of c.args.moment (client_caller c.args.client) (subscription_connection c.args.client)
    (act_of c.in-Some.order)) else c.args.server.now) room in
    (λ i. record {
      entries = (sent i).entries;
      moment = c.args.moment;
      clients = c.take_order.ensures i;
    })
    ∙ sym (ap (λ (b : Bool). if b
    then with_entry (entry_of c.args.moment (client_caller c.args.client)
    (subscription_connection c.args.client) (act_of c.in-Some.order))
    (next_step world c.args.client (λ session. Some (order_taken session)))
    else with_cut (c.args.client ∷ []) world) room)
    ∙ ap (next_order world c.args.client) (sym c.in-Some.is ∙ c.first_order.ensures)
