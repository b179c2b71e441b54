use Rattle.std.proofs.Common.{ap, ◌∙◌, List, arith}
use Rattle.lr_waiting.specs.Client.{Client}
use Rattle.lr_machine.specs.declared.shown.Shown.TheVariants as shows
use Rattle.lr_clients.specs.Client.{ClientValue, clients_of}
use Rattle.lr_clients.specs.Rows.{found_in}
use Rattle.lr_clients.proofs.Places.{client-read}
use Rattle.lr_clients.proofs.clients.ClientTable.not_now.Goals as goal

pub returns : goal.returns
returns c =
    c.not_now.ensures
    ∙ ap (λ (client : Client). shows.No (found_in client c.args.id.thread))
    (client-read c.self.inside.rows.items c.args.id.client c.index.result.now
    c.requires.client.0 (omega (arith, c.requires.client.1, c.self.invariant)) c.index.ensures
    ∙ ap (λ (rows : List ClientValue). clients_of rows c.args.id.client) c.self.view_is)
