use Rattle.std.proofs.Common.{None, if◌then◌else◌, ap, ◌∙◌}
use Rattle.lr_model.specs.Fair.{first_post}
use Rattle.lr_model.specs.Hold.{give_back_hold}
use Rattle.lr_fair.proofs.StepLemmas.{freed-post, hold-step, queue-stays}
use Rattle.lr_fair.proofs.steps.unlock.Goals as goal

pub returns-clause-step : goal.returns-clause-step
returns-clause-step c = λ fair at.
    let lock = c.args.lock.now in
    let keys = c.args.keys.now in
    let new = c.give_back-reply.new.keys in
    let owner = c.args.owner.now in
    let rest = c.args.rest in
    let told = first_post c.args.name.now fair.queue in
    let given = c.give_back-reply.ensures in
    let step = given.step told fair.held at.held in
    let there = queue-stays lock.hold lock.queue lock.stales c.requires.apart keys new given.others
    fair.queue at.places in
    hold-step lock.hold lock.queue lock.stales c.requires.apart keys new given.others fair.queue
    at.places c.give_back-reply.result c.post_if-post.result
    (give_back_hold told keys.moment owner rest fair.held) step
    (freed-post told c.post_if-post.result keys.moment owner rest fair.held c.give_back-reply.result
    step.answer
    (c.post_if-post.ensures fair.queue there
    ∙ ap (λ b. if b then told else None) c.is_freed.ensures))
