use Rattle.std.proofs.Common.{◌≡◌, IfOk, subst}
use Rattle.lr_drill.specs.Drill.{Drilled, summary_after}
use Rattle.lr_drill.proofs.drill.drill_summary.Goals as goal

pub returns : goal.returns
returns c =
    subst (λ (drilled : Drilled). IfOk c.summary_of_drill.result
    (λ text. text ≡ summary_after c.args.events drilled)) c.in_ok-drill.ensures
    c.summary_of_drill.ensures
