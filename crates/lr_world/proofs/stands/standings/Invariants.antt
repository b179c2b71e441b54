use Rattle.std.proofs.Common.{◌≡◌}
use Rattle.lr_machine.specs.Shown.{standings_among}
use Rattle.lr_world.specs.World.{world_with}
use Rattle.lr_world.proofs.StandLaws.{numbers_to}
use Rattle.lr_world.proofs.stands.standings.Given as goal

abbrev pub invariant-loop-before : goal.invariant-loop-before
invariant-loop-before l = l.standings
    ≡ standings_among (world_with l.server.entries l.moment l.clients) (numbers_to 256)
    (numbers_to l.before)
