use Rattle.std.proofs.Common.{◌≡◌, IfOk, List, subst}
use Rattle.lr_machine.specs.Shown.{standings_of}
use Rattle.lr_waiting.specs.declared.stand.Standing.{Standing}
use Rattle.lr_world.specs.World.{WorldValue, world_of}
use Rattle.lr_world.proofs.world.World.stands.Goals as goal

pub returns : goal.returns
returns c =
    subst (λ (v : WorldValue). IfOk c.standings.result (λ (s : List Standing).
    s ≡ standings_of (world_of v))) c.self.view_is c.standings.ensures
