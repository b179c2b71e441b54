use Rattle.std.proofs.Common.{◌≡◌, ◌+◌, ◌<◌, ℕ, length, sym, ◌∙◌, subst, arith}
use Rattle.lr_limits.specs.Limits.{member_limit}
use Rattle.lr_keys.specs.KeySpace.{entry_at}
use Rattle.lr_model.specs.Fair.{place_wait, with_last_place, with_later_place}
use Rattle.lr_fair.specs.Queue.{IsQueueAt}
use Rattle.lr_fair.proofs.StepLemmas.{lock-with}
use Rattle.lr_fair.proofs.TurnLemmas.{no-place, own-place, wait-added, wait-aside, wait-full, wait-kept}
use Rattle.lr_fair.proofs.turn.wait.Goals as goal

pub returns-then-not-queues-clause-step : goal.returns-then-not-queues-clause-step
returns-then-not-queues-clause-step c = λ fair at ready.
    let lock = c.args.lock.now in
    wait-aside lock.hold lock.queue lock.stales c.args.keys.now.moment c.args.owner.now c.args.wait
    fair c.args.keys.now at c.args.queues c.if-not-queues.true

pub returns-in-Some-clause-step : goal.returns-in-Some-clause-step
returns-in-Some-clause-step c = λ fair at ready.
    let lock = c.args.lock.now in
    let keys = c.args.keys.now in
    let owner = c.args.owner.now in
    let wait : ℕ = c.args.wait in
    let own = own-place lock.hold lock.queue lock.stales keys.moment owner wait fair c.in-Some.own
    (sym (c.stale_of.ensures fair.queue at.places) ∙ c.in-Some.is) in
    let stale : ℕ = keys.moment + wait + place_wait in
    let kept = c.keep.ensures.kept fair.queue own.0 stale at.places own.1
    (omega (arith, own.2, c.moment.ensures.moment, c.millis.ensures.value)) in
    wait-kept lock.hold lock.queue lock.stales keys.moment owner wait fair c.args.queues
    c.if-not-queues.false c.keep.new.keys own.0 own.1
    (lock-with lock.hold lock.queue lock.stales c.requires.apart keys c.keep.new.keys fair at
    c.keep.ensures.others c.keep.ensures.moment (with_later_place owner stale fair.queue) kept)

pub returns-then-len-clause-step : goal.returns-then-len-clause-step
returns-then-len-clause-step c = λ fair at ready.
    let lock = c.args.lock.now in
    let keys = c.args.keys.now in
    let owner = c.args.owner.now in
    let none = no-place lock.hold lock.queue lock.stales keys.moment owner c.args.wait fair
    (sym (c.stale_of.ensures fair.queue at.places) ∙ c.in_default.is) in
    wait-full lock.hold lock.queue lock.stales keys.moment owner c.args.wait fair c.args.queues
    c.if-not-queues.false keys none
    (omega (arith, c.len.ensures fair.queue at.places, c.if-len.true)) at

pub returns-clause-step : goal.returns-clause-step
returns-clause-step c = λ fair at ready.
    let lock = c.args.lock.now in
    let keys = c.args.keys.now in
    let owner = c.args.owner.now in
    let wait : ℕ = c.args.wait in
    let none = no-place lock.hold lock.queue lock.stales keys.moment owner wait fair
    (sym (c.stale_of.ensures fair.queue at.places) ∙ c.in_default.is) in
    let stale : ℕ = keys.moment + wait + place_wait in
    let room : length fair.queue < member_limit =
    omega (arith, c.len.ensures fair.queue at.places, c.if-len.false) in
    let late : c.moment.result + c.millis.result + place_wait ≡ stale =
    (λ i. c.moment.ensures.moment i + c.millis.ensures.value i + place_wait) in
    let there = subst (λ (s : ℕ). IsQueueAt (entry_at c.add.new.keys lock.queue)
    (entry_at c.add.new.keys lock.stales) (with_last_place owner s fair.queue))
    late
    (c.add.ensures.added fair.queue at.places none room (ready c.if-not-queues.false none)) in
    wait-added lock.hold lock.queue lock.stales keys.moment owner wait fair c.args.queues
    c.if-not-queues.false c.add.new.keys none room
    (lock-with lock.hold lock.queue lock.stales c.requires.apart keys c.add.new.keys fair at
    c.add.ensures.others c.add.ensures.moment (with_last_place owner stale fair.queue) there)
