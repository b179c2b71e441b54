use Rattle.std.proofs.Common.{◌≤◌, length, ◌==◌, ap, ◌∙◌, arith, List}
use Rattle.lr_model.specs.Table.{put}
use Rattle.lr_waiting.specs.Client.{cut_client}
use Rattle.lr_clients.specs.Client.{ClientValue, clients_of}
use Rattle.lr_clients.proofs.Places.{client-read, clients-set}
use Rattle.lr_clients.proofs.clients.ClientTable.cut.Goals as goal

pub returns : goal.returns
returns c =
    let rows : List ClientValue = c.self.inside.rows.items in
    let within : c.args.client ≤ length rows = omega (arith, c.requires.1, c.self.invariant) in
    let read = client-read rows c.args.client c.index_mut.result.now c.requires.0 within
    c.index_mut.ensures.value in
    clients-set rows c.args.client c.cut.new.self c.requires.0 within
    ∙ ap (put ◌==◌ (clients_of rows) c.args.client) (c.cut.ensures ∙ ap cut_client read)
    ∙ ap (λ (old : List ClientValue). put ◌==◌ (clients_of old) c.args.client
    (cut_client (clients_of old c.args.client))) c.self.view_is
