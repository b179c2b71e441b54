use Rattle.std.proofs.Common.{refl, None, Some, sym, ◌∙◌, subst, ◌≡◌, ◌-◌, ℕ}
use Rattle.lr_keys.specs.KeySpace.{entry_at}
use Rattle.lr_model.specs.Fair.{take_fair, wait_for}
use Rattle.lr_model.specs.Hold.{take_hold}
use Rattle.lr_fair.specs.Step.{IsFairStep, IsLockAt}
use Rattle.lr_fair.proofs.StepLemmas.{held-none, held-other, held-own, held-some, hold-step, take-other, take-own, take-silent}
use Rattle.lr_fair.proofs.steps.take.Goals as goal

pub returns-then-not-exists-clause-step : goal.returns-then-not-exists-clause-step
returns-then-not-exists-clause-step c = λ fair at live ready.
    let lock = c.args.lock.now in
    let keys = c.args.keys.now in
    let owner = c.args.owner.now in
    let none = held-none keys.moment (entry_at keys lock.hold) fair.held at.held
    (sym c.exists.ensures ∙ c.if-not-exists.true) in
    let here = subst (λ h. IsLockAt keys lock.hold lock.queue lock.stales
    (record { held = h; queue = fair.queue })) none at in
    subst (λ h. IsFairStep c.take_turn.new.keys lock.hold lock.queue lock.stales
    (c.take_turn.result, None) (take_fair keys.moment owner c.args.lease c.args.queues fair.queue h))
    (sym none)
    (c.take_turn.ensures.step fair.queue here live ready)

pub returns-then-hold_count-eq0-clause-step : goal.returns-then-hold_count-eq0-clause-step
returns-then-hold_count-eq0-clause-step c = λ fair at live ready.
    let lock = c.args.lock.now in
    let keys = c.args.keys.now in
    let owner = c.args.owner.now in
    let held = held-some keys.moment (entry_at keys lock.hold) fair.held at.held
    (sym c.exists.ensures ∙ c.if-not-exists.false) in
    let here = subst (λ h. IsLockAt keys lock.hold lock.queue lock.stales
    (record { held = h; queue = fair.queue })) held.1 at in
    let none = sym (c.hold_count.ensures.count (Some held.0) here.held) ∙ c.if-hold_count-eq0.true in
    let other = held-other owner held.0 (here.held.hold.within held.0 refl) none in
    let left : c.remaining-left.result ≡ held.0.deadline - keys.moment =
    c.remaining-left.ensures held.0 here.held in
    subst (λ h. IsFairStep c.wait.new.keys lock.hold lock.queue lock.stales (c.wait.result, None)
    (take_fair keys.moment owner c.args.lease c.args.queues fair.queue h)) (sym held.1)
    (take-other c.wait.new.keys lock.hold lock.queue lock.stales (c.wait.result, None) keys.moment
    owner c.args.lease c.args.queues fair.queue held.0 other
    (subst (λ (n : ℕ). IsFairStep c.wait.new.keys lock.hold lock.queue lock.stales
    (c.wait.result, None) (wait_for keys.moment owner n c.args.queues (Some held.0) fair.queue)) left
    (c.wait.ensures.step (record { held = Some held.0; queue = fair.queue }) here ready)))

pub returns-clause-step : goal.returns-clause-step
returns-clause-step c = λ fair at live ready.
    let lock = c.args.lock.now in
    let keys = c.args.keys.now in
    let owner = c.args.owner.now in
    let lease = c.args.lease in
    let held = held-some keys.moment (entry_at keys lock.hold) fair.held at.held
    (sym c.exists.ensures ∙ c.if-not-exists.false) in
    let here = subst (λ h. IsLockAt keys lock.hold lock.queue lock.stales
    (record { held = h; queue = fair.queue })) held.1 at in
    let own = held-own owner held.0 c.hold_count.result
    (c.hold_count.ensures.count (Some held.0) here.held) c.if-hold_count-eq0.false in
    subst (λ h. IsFairStep c.take.new.keys lock.hold lock.queue lock.stales (c.take.result, None)
    (take_fair keys.moment owner lease c.args.queues fair.queue h)) (sym held.1)
    (take-own c.take.new.keys lock.hold lock.queue lock.stales (c.take.result, None) keys.moment
    owner lease c.args.queues fair.queue held.0 own
    (hold-step lock.hold lock.queue lock.stales c.requires.apart keys c.take.new.keys
    c.take.ensures.others fair.queue at.places c.take.result None
    (take_hold keys.moment owner lease (Some held.0)) (c.take.ensures.step (Some held.0) here.held)
    (take-silent keys.moment owner lease (Some held.0))))
