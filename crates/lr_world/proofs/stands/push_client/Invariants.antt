use Rattle.std.proofs.Common.{◌≡◌, ◌++◌}
use Rattle.lr_machine.specs.Shown.{standings_in}
use Rattle.lr_world.specs.World.{world_with}
use Rattle.lr_world.proofs.StandLaws.{numbers_to}
use Rattle.lr_world.proofs.stands.push_client.Given as goal

abbrev pub invariant-loop-before : goal.invariant-loop-before
invariant-loop-before l = l.standings
    ≡ l.fn.standings ++ standings_in (world_with l.server.entries l.moment l.clients) l.client
    (numbers_to l.before)
