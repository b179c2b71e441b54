use Rattle.std.proofs.Common.{◌≤◌, length, ◌==◌, ap, ◌∙◌, arith, List, Some}
use Rattle.lr_model.specs.Table.{put}
use Rattle.lr_waiting.specs.Client.{with_renewed}
use Rattle.lr_clients.specs.Client.{ClientValue, clients_of}
use Rattle.lr_clients.proofs.Places.{client-read, clients-set}
use Rattle.lr_clients.proofs.clients.ClientTable.answer_renewal.Goals as goal

pub returns : goal.returns
returns c =
    let rows : List ClientValue = c.self.inside.rows.items in
    let within : c.args.client ≤ length rows = omega (arith, c.requires.client.1, c.self.invariant) in
    let read = client-read rows c.args.client c.index_mut.result.now c.requires.client.0 within
    c.index_mut.ensures.value in
    clients-set rows c.args.client c.answer_renewal.new.self c.requires.client.0 within
    ∙ ap (put ◌==◌ (clients_of rows) c.args.client)
    (c.answer_renewal.ensures ∙ ap (with_renewed c.args.key.now (Some c.args.reply)) read)
    ∙ ap (λ (old : List ClientValue). put ◌==◌ (clients_of old) c.args.client
    (with_renewed c.args.key.now (Some c.args.reply) (clients_of old c.args.client)))
    c.self.view_is
