use Rattle.std.proofs.Common.{sym, ◌∙◌, arith}
use Rattle.lr_hold.proofs.StepLemmas.{not_held_step, freed_step, kept_step}
use Rattle.lr_hold.proofs.steps.give_back.Goals as goal

pub returns-then-count-eq0-clause-step : goal.returns-then-count-eq0-clause-step
returns-then-count-eq0-clause-step c = λ post held at.
    not_held_step c.args.keys.now c.args.owner.now _ post _ held at
    (sym (c.hold_count-count.ensures.count held at) ∙ c.if-count-eq0.true)

pub returns-then-count-eq1-clause-step : goal.returns-then-count-eq1-clause-step
returns-then-count-eq1-clause-step c = λ post held at.
    freed_step c.args.keys.now c.del.new.self c.args.owner.now _ post _ held
    (sym (c.hold_count-count.ensures.count held at) ∙ c.if-count-eq1.true) c.del.ensures.removed

pub returns-clause-step : goal.returns-clause-step
returns-clause-step c = λ post held at.
    let known = c.hold_count-count.ensures in
    kept_step c.args.keys.now c.add.new.keys c.args.key.now c.add.ensures.moment known.early
    c.args.owner.now known.owner c.args.rest c.requires.lease c.brief.result c.brief.ensures.text
    post held at
    (omega (arith, known.count held at, c.if-count-eq0.false, c.if-count-eq1.false))
    c.add.ensures.added
