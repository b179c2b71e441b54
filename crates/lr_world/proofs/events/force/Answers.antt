use Rattle.std.proofs.Common.{◌∙◌}
use Rattle.lr_machine.specs.Clients.{operator, operator_connection}
use Rattle.lr_machine.specs.World.{force_of}
use Rattle.lr_clients.specs.Client.{clients_of}
use Rattle.lr_world.proofs.DropLaws.{called-in_time, called-open, called-world}
use Rattle.lr_world.proofs.events.force.Goals as goal

pub cut_dropped-requires-clause-opened : goal.cut_dropped-requires-clause-opened
cut_dropped-requires-clause-opened c =
    called-open c.args.server.now c.call.new.server c.args.moment operator operator_connection
    (force_of c.args.name) c.in_ok-called.called c.in_ok-called.ensures.called
    c.in_ok-called.ensures.entry (clients_of c.args.clients.now) c.requires.in_order.connected

pub cut_dropped-requires-clause-in_time : goal.cut_dropped-requires-clause-in_time
cut_dropped-requires-clause-in_time c =
    called-in_time c.args.server.now c.call.new.server c.args.moment operator operator_connection
    (force_of c.args.name) c.in_ok-called.called c.in_ok-called.ensures.called
    c.in_ok-called.ensures.entry

pub returns-clause-next : goal.returns-clause-next
returns-clause-next c =
    c.cut_dropped.ensures.world
    ∙ called-world c.args.server.now c.call.new.server c.args.moment operator operator_connection
    (force_of c.args.name) c.in_ok-called.called c.in_ok-called.ensures.called
    c.in_ok-called.ensures.entry (clients_of c.args.clients.now)
