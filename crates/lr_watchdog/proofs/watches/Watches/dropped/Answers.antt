use Rattle.std.proofs.Common.{None, refl, ap, ◌∙◌}
use Rattle.lr_waiting.specs.Watchdog.{watch_dropped}
use Rattle.lr_watchdog.specs.declared.slot.Slot.{Slot}
use Rattle.lr_watchdog.specs.Value.{WatchesValue, watchdog_of}
use Rattle.lr_watchdog.proofs.Watchdogs.{IsWatches-put, dropped_put, dropped_valid, slot_valid}
use Rattle.lr_watchdog.proofs.watches.Watches.dropped.Goals as goal

-- the slot without a watch
abbrev slot_after : goal.After-set_slot → Slot
slot_after c = record { watch = None; renewal = c.find_slot.result.renewal }

pub invariant_of-self : goal.invariant_of-self
invariant_of-self c =
    let s = c.self.inside in
    let before = slot_valid s.lease s.slots.entries s.due c.args.key.now c.find_slot.result
    c.self.invariant c.find_slot.ensures in
    IsWatches-put s.lease s.slots.entries c.set_slot.new.slots.entries s.due c.set_slot.new.due
    c.args.key.now (slot_after c) c.self.invariant c.set_slot.ensures.at c.set_slot.ensures.due
    (dropped_valid c.find_slot.result.renewal before.renewal)

pub returns : goal.returns
returns c =
    let s = c.self.inside in
    dropped_put s.lease s.generation s.generation s.slots.entries c.set_slot.new.slots.entries
    c.args.key.now (slot_after c) c.set_slot.ensures.at refl
    (ap (λ (slot : Slot). slot.renewal) c.find_slot.ensures)
    ∙ ap (λ (value : WatchesValue). watch_dropped c.args.key.now (watchdog_of value)) c.self.view_is
