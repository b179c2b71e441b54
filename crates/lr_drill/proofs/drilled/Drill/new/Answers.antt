use Rattle.std.proofs.Common.{ap}
use Rattle.lr_machine.specs.World.{World}
use Rattle.lr_drill.proofs.Drilling.{drilled_with}
use Rattle.lr_drill.proofs.drilled.Drill.new.Goals as goal

pub returns-clause-first : goal.returns-clause-first
returns-clause-first c =
    ap (λ (world : World). drilled_with c.args.number world 0) c.in_ok-new.ensures.first
