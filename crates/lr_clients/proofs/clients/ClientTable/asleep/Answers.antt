use Rattle.std.proofs.Common.{ap, ◌∙◌, List, arith}
use Rattle.lr_waiting.specs.Client.{Client}
use Rattle.lr_clients.specs.Client.{ClientValue, clients_of}
use Rattle.lr_clients.specs.Stands.{sleeper_of}
use Rattle.lr_clients.proofs.Places.{client-read}
use Rattle.lr_clients.proofs.clients.ClientTable.asleep.Goals as goal

pub returns-clause-value : goal.returns-clause-value
returns-clause-value c =
    c.asleep.ensures.value
    ∙ ap (λ (client : Client). sleeper_of client c.args.thread)
    (client-read c.self.inside.rows.items c.args.client c.index.result.now c.requires.0
    (omega (arith, c.requires.1, c.self.invariant)) c.index.ensures
    ∙ ap (λ (rows : List ClientValue). clients_of rows c.args.client) c.self.view_is)
