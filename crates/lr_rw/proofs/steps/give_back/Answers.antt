use Rattle.std.proofs.Common.{refl, sym, subst, ◌∙◌, ◌+◌, negsuc, arith}
use Rattle.lr_rw.specs.Step.{IsPut}
use Rattle.lr_rw.proofs.StepLemmas.{deadline_early, not_held_step, freed_step, kept_step}
use Rattle.lr_rw.proofs.steps.give_back.Goals as goal

pub returns-then-count-eq0-clause-step : goal.returns-then-count-eq0-clause-step
returns-then-count-eq0-clause-step c = λ name holds at.
    not_held_step c.args.keys.now c.args.lock.now.counts c.args.lock.now.deadlines holds at
    c.args.owner.now c.args.access
    (sym (c.hold_count-count.ensures.count holds at) ∙ c.if-count-eq0.true) name
    (c.args.keys.now.moment + c.args.rest)

pub returns-then-count-eq1-clause-step : goal.returns-then-count-eq1-clause-step
returns-then-count-eq1-clause-step c = λ name holds at.
    freed_step c.args.keys.now c.remove.new.keys c.args.lock.now.counts c.args.lock.now.deadlines
    holds c.args.owner.now c.args.access
    (sym (c.hold_count-count.ensures.count holds at) ∙ c.if-count-eq1.true)
    (λ hold found. c.remove.ensures.removed holds c.args.owner.now c.args.access hold at
    c.member-member.ensures.owner c.member-member.ensures.text found) name
    (c.args.keys.now.moment + c.args.rest)

pub returns-clause-step : goal.returns-clause-step
returns-clause-step c = λ name holds at.
    kept_step c.args.keys.now c.put.new.keys c.args.lock.now.counts c.args.lock.now.deadlines
    holds at c.args.owner.now c.args.access c.member-member.ensures.owner c.member-member.result
    c.member-member.ensures.text (negsuc 0)
    (c.args.keys.now.moment + c.args.rest)
    (deadline_early c.args.keys.now.moment c.args.rest c.moment.ensures.live.moment c.requires.lease)
    (λ hold more put. c.put.ensures.put holds hold at more
    (subst (λ m. IsPut c.args.keys.now c.args.lock.now.counts c.args.lock.now.deadlines holds hold
    c.member-member.result (negsuc 0) (m + c.args.rest)) (sym c.moment.ensures.moment) put)) refl
    (omega (
      arith,
      c.hold_count-count.ensures.count holds at,
      c.if-count-eq0.false,
      c.if-count-eq1.false,
    )) name
