use Rattle.std.proofs.Common.{None, sym, ap, ◌∙◌, ◌∷◌, [], subst, ◌≡◌, min, ◌-◌, ◌<◌, true, ℕ}
use Rattle.std.specs.List.{AllByRecursion}
use Rattle.lr_names.specs.Owner.{same_owner}
use Rattle.lr_model.specs.Fair.{is_place_of, place_of, place_wait, wait_for}
use Rattle.lr_model.specs.Hold.{take_hold}
use Rattle.lr_fair.specs.Step.{IsFairStep, IsLockAt}
use Rattle.lr_fair.proofs.StepLemmas.{hold-step, take-silent}
use Rattle.lr_fair.proofs.TurnLemmas.{has-first, none-first, turn-behind, turn-first, turn-free}
use Rattle.lr_fair.proofs.turn.take_turn.Goals as goal

pub returns-in_default-clause-step : goal.returns-in_default-clause-step
returns-in_default-clause-step c = λ queue at live ready.
    let lock = c.args.lock.now in
    let keys = c.args.keys.now in
    let owner = c.args.owner.now in
    let lease = c.args.lease in
    let none = none-first queue (sym (c.first_owner.ensures queue at.places) ∙ c.in_default.is) in
    let here = subst (λ q. IsLockAt keys lock.hold lock.queue lock.stales
    (record { held = None; queue = q })) none at in
    turn-free c.take.new.keys lock.hold lock.queue lock.stales (c.take.result, None) keys.moment owner
    lease c.args.queues queue none
    (hold-step lock.hold lock.queue lock.stales c.requires.apart keys c.take.new.keys
    c.take.ensures.others [] here.places c.take.result None (take_hold keys.moment owner lease None)
    (c.take.ensures.step None here.held) (take-silent keys.moment owner lease None))

pub returns-then-is_same-clause-step : goal.returns-then-is_same-clause-step
returns-then-is_same-clause-step c = λ queue at live ready.
    let lock = c.args.lock.now in
    let keys = c.args.keys.now in
    let owner = c.args.owner.now in
    let first = has-first queue c.in-Some.first
    (sym (c.first_owner.ensures queue at.places) ∙ c.in-Some.is) in
    let here = subst (λ q. IsLockAt keys lock.hold lock.queue lock.stales
    (record { held = None; queue = q })) first.is at in
    let own : is_place_of owner first.place ≡ true =
    ap (λ o. same_owner o owner) (sym first.owner_is) ∙ sym c.is_same.ensures ∙ c.if-is_same.true in
    turn-first c.take_first.new.keys lock.hold lock.queue lock.stales (c.take_first.result, None)
    keys.moment owner c.args.lease c.args.queues queue first.place first.rest first.is own
    (c.take_first.ensures.step first.place first.rest here own)

pub returns-clause-step : goal.returns-clause-step
returns-clause-step c = λ queue at live ready.
    let lock = c.args.lock.now in
    let keys = c.args.keys.now in
    let owner = c.args.owner.now in
    let first = has-first queue c.in-Some.first
    (sym (c.first_owner.ensures queue at.places) ∙ c.in-Some.is) in
    let here = subst (λ q. IsLockAt keys lock.hold lock.queue lock.stales
    (record { held = None; queue = q })) first.is at in
    let other = ap (λ o. same_owner o owner) (sym first.owner_is) ∙ sym c.is_same.ensures
    ∙ c.if-is_same.false in
    let ahead = (subst (AllByRecursion (λ place. keys.moment < place.stale)) first.is live).0 in
    let left : c.wait_behind-left.result ≡ min place_wait (first.place.stale - keys.moment) =
    c.wait_behind-left.ensures first.place first.rest here.places first.owner_is ahead in
    turn-behind c.wait.new.keys lock.hold lock.queue lock.stales (c.wait.result, None) keys.moment
    owner c.args.lease c.args.queues queue first.place first.rest first.is other
    (subst (λ (n : ℕ). IsFairStep c.wait.new.keys lock.hold lock.queue lock.stales
    (c.wait.result, None) (wait_for keys.moment owner n c.args.queues None
    (first.place ∷ first.rest))) left
    (c.wait.ensures.step (record { held = None; queue = first.place ∷ first.rest }) here
    (λ asks none. ready asks (ap (place_of owner) first.is ∙ none))))
