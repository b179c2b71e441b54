use Rattle.std.proofs.Common.{◌≡◌, ◌<◌, None, length, sym, ap, ◌∙◌, arith}
use Rattle.lr_limits.specs.Limits.{member_limit}
use Rattle.lr_objects.specs.declared.access.Access.TheVariants.{Read}
use Rattle.lr_model.specs.ReadWrite.{hold_of}
use Rattle.lr_rw.specs.Step.{count_if}
use Rattle.lr_rw.proofs.StepLemmas.{read_busy_step, too_many_step, may_read, read_step}
use Rattle.lr_rw.proofs.steps.read.Goals as goal
use Rattle.lr_rw.proofs.steps.read.Goals.{else-hold_count-eq0-via-then-hold_count-eq0+else-len, else-hold_count-eq0-via-else-hold_count-eq0}

pub returns-in-Some-clause-step : goal.returns-in-Some-clause-step
returns-in-Some-clause-step c = λ holds at live ready.
    read_busy_step c.args.keys.now c.args.lock.now.counts c.args.lock.now.deadlines holds at
    c.args.keys.now.moment live c.args.owner.now c.args.lease c.in-Some.deadline c.remaining.result
    (sym c.in-Some.is ∙ c.writer_beside.ensures holds at) c.remaining.ensures

pub returns-then-len-clause-step : goal.returns-then-len-clause-step
returns-then-len-clause-step c = λ holds at live ready.
    too_many_step c.args.keys.now c.args.lock.now.counts c.args.lock.now.deadlines holds at
    c.args.keys.now.moment live c.args.owner.now c.args.lease
    (sym c.in_default.is ∙ c.writer_beside.ensures holds at)
    (sym (c.hold_count.ensures.count holds at) ∙ c.if-hold_count-eq0.true)
    (omega (arith, c.len.ensures holds at, c.if-len.true))

pub returns-clause-step : goal.returns-clause-step
returns-clause-step c = λ holds at live ready.
    let owner = c.args.owner.now in
    let alone = sym c.in_default.is ∙ c.writer_beside.ensures holds at in
    let room : hold_of owner Read holds ≡ None → length holds < member_limit = λ none.
    elim c.else-hold_count-eq0.branch [
      | else-hold_count-eq0-via-then-hold_count-eq0+else-len w ↦
          omega (arith, w.len.ensures holds at, w.if-len.false)
      | else-hold_count-eq0-via-else-hold_count-eq0 w ↦
          absurd (w.if-hold_count-eq0.false (c.hold_count.ensures.count holds at ∙ ap count_if none))
    ] in
    read_step c.args.keys.now c.args.lock.now.counts c.args.lock.now.deadlines holds at
    c.args.keys.now.moment live owner c.args.lease c.take.new.keys c.take.result alone room
    (c.take.ensures.step holds at (λ none. (
      may_read c.args.keys.now c.args.lock.now.counts c.args.lock.now.deadlines holds at
          c.args.keys.now.moment live owner c.args.lease alone none (room none),
      ready none,
    )))
