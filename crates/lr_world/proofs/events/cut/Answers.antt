use Rattle.std.proofs.Common.{◌∷◌, [], if◌then◌else◌, sym, ap, ◌∙◌}
use Rattle.lr_machine.specs.World.{World, with_cut}
use Rattle.lr_world.specs.World.{world_with}
use Rattle.lr_world.proofs.events.cut.Goals as goal

pub returns-clause-next : goal.returns-clause-next
returns-clause-next c =
    let world : World =
    world_with c.args.server.now.entries c.args.moment c.args.clients.now in
    c.cut_client.ensures.world
    ∙ ap (λ b. if b then world else with_cut (c.args.client ∷ []) world)
    (sym c.if-is_cut.false ∙ c.is_cut.ensures)
