use Rattle.lr_machine_renewals.proofs.Worlds.{watches-first}
use Rattle.lr_machine_wakeups.proofs.Worlds.{kept-first}
use Rattle.lr_world.proofs.WorldLaws.{IsWorld-first, is-first}
use Rattle.lr_world.proofs.world.World.new.Goals as goal

pub invariant_of-result : goal.invariant_of-result
invariant_of-result c =
    IsWorld-first c.in_ok-new.field-0 c.in_ok-new-2.field-0
    kept-first watches-first c.in_ok-new.ensures c.in_ok-new-2.ensures

pub returns-clause-first : goal.returns-clause-first
returns-clause-first c =
    is-first c.in_ok-new.field-0 c.in_ok-new-2.field-0 c.in_ok-new.ensures c.in_ok-new-2.ensures
