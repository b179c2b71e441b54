use Rattle.std.proofs.Common.{◌≡◌, None, Some, refl, ap, sym, ◌∙◌}
use Rattle.lr_waiting.specs.Watchdog.{renewal_taken, watch_after}
use Rattle.lr_watchdog.specs.declared.slot.Slot.{Slot}
use Rattle.lr_watchdog.specs.Value.{WatchesValue, renewal_in, watchdog_of}
use Rattle.lr_watchdog.proofs.Watchdogs.{IsWatches-put, slot_valid, taken_put, taken_valid}
use Rattle.lr_watchdog.proofs.watches.Watches.renew_taken.Goals as goal

-- the slot without the renewal
abbrev slot_after : goal.After-set_slot → Slot
slot_after c = record { watch = c.watch_after.result; renewal = None }

pub told-told-requires-clause-at : goal.told-told-requires-clause-at
told-told-requires-clause-at c =
    let s = c.self.inside in
    let before = slot_valid s.lease s.slots.entries s.due c.args.key.now c.find_slot-before.result
    c.self.invariant c.find_slot-before.ensures in
    before.renewal c.in-Some.renewal c.in-Some.is

pub watch_after-requires-clause-at : goal.watch_after-requires-clause-at
watch_after-requires-clause-at c =
    let s = c.self.inside in
    let before = slot_valid s.lease s.slots.entries s.due c.args.key.now c.find_slot-before.result
    c.self.invariant c.find_slot-before.ensures in
    before.renewal c.in-Some.renewal c.in-Some.is

pub invariant_of-self : goal.invariant_of-self
invariant_of-self c =
    let s = c.self.inside in
    let before = slot_valid s.lease s.slots.entries s.due c.args.key.now c.find_slot-before.result
    c.self.invariant c.find_slot-before.ensures in
    IsWatches-put s.lease s.slots.entries c.set_slot.new.slots.entries s.due c.set_slot.new.due
    c.args.key.now (slot_after c) c.self.invariant c.set_slot.ensures.at c.set_slot.ensures.due
    (taken_valid c.args.renewed s.lease c.find_slot-before.result.watch c.watch_after.result
    c.in-Some.renewal (before.renewal c.in-Some.renewal c.in-Some.is) c.self.invariant.high
    before.watch c.watch_after.ensures)

pub returns-clause-taken : goal.returns-clause-taken
returns-clause-taken c =
    let s = c.self.inside in
    let there : renewal_in s.slots.entries c.args.key.now ≡ Some c.in-Some.renewal =
    sym (ap (λ (slot : Slot). slot.renewal) c.find_slot-before.ensures) ∙ c.in-Some.is in
    taken_put s.lease s.generation s.generation s.slots.entries c.set_slot.new.slots.entries
    c.args.key.now (slot_after c) c.set_slot.ensures.at c.args.renewed c.in-Some.renewal there
    (c.watch_after.ensures ∙ ap (λ (slot : Slot). watch_after c.args.renewed s.lease slot.watch
    c.in-Some.renewal) c.find_slot-before.ensures)
    refl
    ∙ ap (λ (value : WatchesValue). renewal_taken c.args.renewed c.args.key.now
    (watchdog_of value)) c.self.view_is
