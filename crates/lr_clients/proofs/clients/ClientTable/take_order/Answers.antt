use Rattle.std.proofs.Common.{◌≤◌, length, ◌≡◌, ◌==◌, ap, ◌∙◌, arith, List}
use Rattle.lr_model.specs.Table.{put}
use Rattle.lr_waiting.specs.Client.{Client}
use Rattle.lr_waiting.specs.Session.{order_taken}
use Rattle.lr_clients.specs.Client.{ClientValue, client_of, clients_of}
use Rattle.lr_clients.proofs.Steps.{one-row}
use Rattle.lr_clients.proofs.Places.{client-read, clients-set}
use Rattle.lr_clients.proofs.clients.ClientTable.take_order.Goals as goal

abbrev taken : Client → Client
taken client = record client { session = order_taken client.session }

pub returns : goal.returns
returns c =
    let rows : List ClientValue = c.self.inside.rows.items in
    let within : c.args.client ≤ length rows = omega (arith, c.requires.1, c.self.invariant) in
    let read = client-read rows c.args.client c.index_mut.result.now c.requires.0 within
    c.index_mut.ensures.value in
    let now : client_of c.take_order.new.self ≡ taken (client_of c.index_mut.result.now) =
    one-row _ _ c.take_order.ensures in
    clients-set rows c.args.client c.take_order.new.self c.requires.0 within
    ∙ ap (put ◌==◌ (clients_of rows) c.args.client) (now ∙ ap taken read)
    ∙ ap (λ (old : List ClientValue). put ◌==◌ (clients_of old) c.args.client
    (taken (clients_of old c.args.client))) c.self.view_is
