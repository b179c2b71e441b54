use Rattle.std.proofs.Common.{sym, ◌∙◌}
use Rattle.lr_hold.proofs.StepLemmas.{lost_step}
use Rattle.lr_hold.proofs.steps.renew.Goals as goal

pub returns-then-hold_count-eq0-clause-step : goal.returns-then-hold_count-eq0-clause-step
returns-then-hold_count-eq0-clause-step c = λ held at.
    lost_step c.args.keys.now c.args.owner.now _ _ held at
    (sym (c.hold_count.ensures.count held at) ∙ c.if-hold_count-eq0.true)
