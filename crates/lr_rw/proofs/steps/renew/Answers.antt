use Rattle.std.proofs.Common.{refl, sym, subst, ◌∙◌, ◌+◌, pos}
use Rattle.lr_rw.specs.Step.{IsPut}
use Rattle.lr_rw.proofs.StepLemmas.{deadline_early, lost_step, renewed_step}
use Rattle.lr_rw.proofs.steps.renew.Goals as goal

pub returns-then-hold_count-eq0-clause-step : goal.returns-then-hold_count-eq0-clause-step
returns-then-hold_count-eq0-clause-step c = λ holds at.
    lost_step c.args.keys.now c.args.lock.now.counts c.args.lock.now.deadlines holds at
    c.args.owner.now c.args.access
    (sym (c.hold_count.ensures.count holds at) ∙ c.if-hold_count-eq0.true)
    (c.args.keys.now.moment + c.args.lease)

pub returns-clause-step : goal.returns-clause-step
returns-clause-step c = λ holds at.
    renewed_step c.args.keys.now c.put.new.keys c.args.lock.now.counts c.args.lock.now.deadlines
    holds at c.args.owner.now c.args.access c.member.ensures.owner c.member.result
    c.member.ensures.text (pos 0)
    (c.args.keys.now.moment + c.args.lease)
    (deadline_early c.args.keys.now.moment c.args.lease c.moment.ensures.live.moment c.requires.lease)
    (λ hold more put. c.put.ensures.put holds hold at more
    (subst (λ m. IsPut c.args.keys.now c.args.lock.now.counts c.args.lock.now.deadlines holds hold
    c.member.result (pos 0) (m + c.args.lease)) (sym c.moment.ensures.moment) put)) refl
    (λ none. c.if-hold_count-eq0.false (c.hold_count.ensures.count holds at ∙ none))
