use Rattle.std.proofs.Common.{sym, ◌∙◌}
use Rattle.lr_world.proofs.AloneLaws.{alone-err, alone-ok}
use Rattle.lr_world.proofs.world.run.Goals as goal

pub returns-in-Some-clause-next : goal.returns-in-Some-clause-next
returns-in-Some-clause-next c =
    alone-ok c.step.result c.args.server.now.entries c.args.moment.now c.args.clients.now
    c.step.new.self c.args.event.now c.in-Some.client
    (sym c.client_alone.ensures ∙ c.in-Some.is) c.step.ensures.next

pub returns-in-Some-clause-err : goal.returns-in-Some-clause-err
returns-in-Some-clause-err c =
    alone-err c.step.result c.args.server.now.entries c.args.moment.now c.args.clients.now
    c.step.new.self c.step.ensures.err
