use Rattle.std.proofs.Common.{is_none, sym, ap, ◌∙◌}
use Rattle.lr_model.specs.Fair.{without_place}
use Rattle.lr_fair.proofs.StepLemmas.{leave-step, leave-unknown, lock-with, none-told}
use Rattle.lr_fair.proofs.steps.leave.Goals as goal

pub returns-then-is_none-clause-step : goal.returns-then-is_none-clause-step
returns-then-is_none-clause-step c = λ fair at.
    let lock = c.args.lock.now in
    leave-unknown c.args.name.now c.args.owner.now lock.hold lock.queue lock.stales c.args.keys.now
    fair at
    (ap is_none (sym (c.stale_of.ensures fair.queue at.places))
    ∙ none-told c.stale_of.result c.is_none.result c.is_none.ensures ∙ c.if-is_none.true)

pub returns-clause-step : goal.returns-clause-step
returns-clause-step c = λ fair at.
    let lock = c.args.lock.now in
    let keys = c.args.keys.now in
    let owner = c.args.owner.now in
    let new = c.remove.new.keys in
    let brief = c.brief.ensures in
    let removed = c.remove.ensures in
    let left = removed.removed fair.queue owner at.places brief.owner brief.text in
    leave-step c.args.name.now owner lock.hold lock.queue lock.stales keys new fair
    (ap is_none (sym (c.stale_of.ensures fair.queue at.places))
    ∙ none-told c.stale_of.result c.is_none.result c.is_none.ensures ∙ c.if-is_none.false)
    (lock-with lock.hold lock.queue lock.stales c.requires.apart keys new fair at removed.others
    removed.moment (without_place owner fair.queue) left)
    c.post_if-post.result c.may_take-free.result
    (c.post_if-post.ensures (without_place owner fair.queue) left)
    (c.may_take-free.ensures fair at)
