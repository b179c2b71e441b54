use Rattle.std.proofs.Common.{sym, ◌∙◌}
use Rattle.lr_rw.proofs.StepLemmas.{write_busy_step}
use Rattle.lr_rw.proofs.steps.write.Goals as goal

pub returns-in-Some-clause-step : goal.returns-in-Some-clause-step
returns-in-Some-clause-step c = λ holds at live ready.
    write_busy_step c.args.keys.now c.args.lock.now.counts c.args.lock.now.deadlines holds at
    c.args.keys.now.moment live c.args.owner.now c.args.lease c.in-Some.deadline c.remaining.result
    (sym (c.hold_count.ensures.count holds at) ∙ c.if-hold_count-eq0.true)
    (sym c.in-Some.is ∙ c.last_deadline.ensures holds at) c.remaining.ensures
