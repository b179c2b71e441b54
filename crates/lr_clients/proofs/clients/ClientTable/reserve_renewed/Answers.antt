use Rattle.std.proofs.Common.{ap, ◌∙◌, arith}
use Rattle.lr_clients.specs.Client.{clients_of}
use Rattle.lr_clients.proofs.Places.{clients-kept}
use Rattle.lr_clients.proofs.clients.ClientTable.reserve_renewed.Goals as goal

pub returns-clause-same : goal.returns-clause-same
returns-clause-same c =
    clients-kept c.self.inside.rows.items c.args.client c.index_mut.result.now
    c.reserve_renewed.new.self c.requires.0 (omega (arith, c.requires.1, c.self.invariant))
    c.index_mut.ensures.value c.reserve_renewed.ensures.same
    ∙ ap clients_of c.self.view_is
