use Rattle.std.proofs.Common.{ℕ, List, map, ap, ◌∙◌}
use Rattle.lr_machine.specs.Clients.{client_at}
use Rattle.lr_machine.specs.World.{with_cut}
use Rattle.lr_world.specs.World.{world_with}
use Rattle.lr_world.proofs.events.cut_dropped.Goals as goal

pub returns-clause-world : goal.returns-clause-world
returns-clause-world c =
    c.cut_all.ensures.world
    ∙ ap (λ (conns : List ℕ). with_cut (map client_at conns)
    (world_with c.args.server.now.entries c.args.moment c.args.clients.now)) c.as_slice.ensures
