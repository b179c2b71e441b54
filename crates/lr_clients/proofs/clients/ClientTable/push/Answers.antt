use Rattle.std.proofs.Common.{◌≤◌, length, ◌≡◌, ◌==◌, ap, ◌∙◌, arith, List}
use Rattle.lr_names.specs.declared.post.Push.{Push}
use Rattle.lr_model.specs.Table.{put}
use Rattle.lr_waiting.specs.Client.{Client}
use Rattle.lr_waiting.specs.Session.{pushed}
use Rattle.lr_clients.specs.Client.{ClientValue, client_of, clients_of}
use Rattle.lr_clients.proofs.Steps.{one-row}
use Rattle.lr_clients.proofs.Places.{client-read, clients-set}
use Rattle.lr_clients.proofs.clients.ClientTable.push.Goals as goal

abbrev taken : Push → Client → Client
taken item client = record client { session = pushed item client.session }

pub returns-clause-next : goal.returns-clause-next
returns-clause-next c =
    let rows : List ClientValue = c.self.inside.rows.items in
    let within : c.args.client ≤ length rows = omega (arith, c.requires.client.1, c.self.invariant) in
    let read = client-read rows c.args.client c.index_mut.result.now c.requires.client.0 within
    c.index_mut.ensures.value in
    let now : client_of c.push.new.self
    ≡ taken c.args.item.now (client_of c.index_mut.result.now) =
    one-row _ _ c.push.ensures.next in
    clients-set rows c.args.client c.push.new.self c.requires.client.0 within
    ∙ ap (put ◌==◌ (clients_of rows) c.args.client) (now ∙ ap (taken c.args.item.now) read)
    ∙ ap (λ (old : List ClientValue). put ◌==◌ (clients_of old) c.args.client
    (taken c.args.item.now (clients_of old c.args.client))) c.self.view_is
