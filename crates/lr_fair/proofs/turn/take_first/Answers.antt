use Rattle.std.proofs.Common.{None, ◌∷◌, subst}
use Rattle.lr_keys.specs.KeySpace.{entry_at}
use Rattle.lr_model.specs.Fair.{with_queue}
use Rattle.lr_model.specs.Hold.{take_hold}
use Rattle.lr_fair.specs.Queue.{IsQueueAt}
use Rattle.lr_fair.specs.Step.{IsFairStep}
use Rattle.lr_fair.proofs.StaleLaws.{first-gone}
use Rattle.lr_fair.proofs.StepLemmas.{hold-step, lock-with, take-silent}
use Rattle.lr_fair.proofs.turn.take_first.Goals as goal

pub returns-clause-step : goal.returns-clause-step
returns-clause-step c = λ place rest at own.
    let lock = c.args.lock.now in
    let keys = c.args.keys.now in
    let owner = c.args.owner.now in
    let lease = c.args.lease in
    let middle = c.remove.new.keys in
    let brief = c.brief.ensures in
    let removed = c.remove.ensures in
    let left = subst (IsQueueAt (entry_at middle lock.queue) (entry_at middle lock.stales))
    (first-gone owner place rest at.places.are own)
    (removed.removed (place ∷ rest) owner at.places brief.owner brief.text) in
    let here = lock-with lock.hold lock.queue lock.stales c.requires.apart keys middle
    (record { held = None; queue = place ∷ rest }) at removed.others removed.moment rest left in
    subst (λ m. IsFairStep c.take.new.keys lock.hold lock.queue lock.stales (c.take.result, None)
    (with_queue rest (take_hold m owner lease None))) removed.moment
    (hold-step lock.hold lock.queue lock.stales c.requires.apart middle c.take.new.keys
    c.take.ensures.others rest here.places c.take.result None
    (take_hold middle.moment owner lease None) (c.take.ensures.step None here.held)
    (take-silent middle.moment owner lease None))
