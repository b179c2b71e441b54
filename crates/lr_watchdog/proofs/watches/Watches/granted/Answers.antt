use Rattle.std.proofs.Common.{Some, refl, ap, ◌∙◌}
use Rattle.lr_waiting.specs.Watchdog.{watch_granted}
use Rattle.lr_watchdog.specs.declared.slot.Slot.{Slot}
use Rattle.lr_watchdog.specs.Value.{WatchesValue, watchdog_of}
use Rattle.lr_watchdog.proofs.Watchdogs.{IsWatches-put, granted_put, granted_valid, slot_valid}
use Rattle.lr_watchdog.proofs.watches.Watches.granted.Goals as goal

-- the slot with the new watch
abbrev slot_after : goal.After-self-1 → Slot
slot_after c = record { watch = Some c.granted.result; renewal = c.find_slot.result.renewal }

pub invariant_of-self-2 : goal.invariant_of-self-2
invariant_of-self-2 c =
    let s = c.self.inside in
    let before = slot_valid s.lease s.slots.entries s.due c.args.key.now c.find_slot.result
    c.self.invariant c.find_slot.ensures in
    IsWatches-put s.lease s.slots.entries c.add_slot.new.slots.entries s.due c.add_slot.new.due
    c.args.key.now (slot_after c) c.self.invariant c.in_ok-add_slot.ensures.at
    c.add_slot.ensures.due
    (granted_valid c.args.at s.lease c.granted.result c.find_slot.result.renewal c.requires
    c.self.invariant.high c.granted.ensures.due before.renewal)

pub returns-clause-ok : goal.returns-clause-ok
returns-clause-ok c =
    let s = c.self.inside in
    granted_put s.lease s.generation c.next_generation-generation.result s.slots.entries c.add_slot.new.slots.entries
    c.args.key.now (slot_after c) c.in_ok-add_slot.ensures.at c.args.at c.granted.result refl
    (ap (λ (slot : Slot). slot.renewal) c.find_slot.ensures) c.granted.ensures.due
    c.granted.ensures.generation c.next_generation-generation.ensures
    ∙ ap (λ (value : WatchesValue). watch_granted c.args.at c.args.key.now (watchdog_of value))
    c.self.view_is
