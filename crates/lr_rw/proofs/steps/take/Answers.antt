use Rattle.std.proofs.Common.{refl, sym, subst, ◌+◌, pos, arith}
use Rattle.lr_rw.specs.Step.{IsPut}
use Rattle.lr_rw.proofs.StepLemmas.{deadline_early, full_step, granted_step}
use Rattle.lr_rw.proofs.steps.take.Goals as goal

pub returns-then-hold_count-ge-MOST_HOLDS-clause-step :
    goal.returns-then-hold_count-ge-MOST_HOLDS-clause-step
returns-then-hold_count-ge-MOST_HOLDS-clause-step c = λ holds at may.
    full_step c.args.keys.now c.args.lock.now.counts c.args.lock.now.deadlines holds at
    c.args.owner.now c.args.access (c.args.keys.now.moment + c.args.lease)
    (omega (arith, c.hold_count.ensures.count holds at, c.if-hold_count-ge-MOST_HOLDS.true))

pub returns-clause-step : goal.returns-clause-step
returns-clause-step c = λ holds at may.
    granted_step c.args.keys.now c.put.new.keys c.args.lock.now.counts c.args.lock.now.deadlines
    holds at c.args.owner.now c.args.access c.member.ensures.owner c.member.result
    c.member.ensures.text (pos 1)
    (c.args.keys.now.moment + c.args.lease)
    (deadline_early c.args.keys.now.moment c.args.lease c.moment.ensures.live.moment c.requires.lease)
    (λ hold more put. c.put.ensures.put holds hold at more
    (subst (λ m. IsPut c.args.keys.now c.args.lock.now.counts c.args.lock.now.deadlines holds hold
    c.member.result (pos 1) (m + c.args.lease)) (sym c.moment.ensures.moment) put)) refl
    (omega (arith, c.hold_count.ensures.count holds at, c.if-hold_count-ge-MOST_HOLDS.false)) may
