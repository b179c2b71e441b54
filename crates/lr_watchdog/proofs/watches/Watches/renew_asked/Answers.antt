use Rattle.std.proofs.Common.{◌≡◌, Some, refl, ap, sym, ◌∙◌}
use Rattle.lr_waiting.specs.Watchdog.{renewal_asked}
use Rattle.lr_watchdog.specs.declared.slot.Slot.{Slot}
use Rattle.lr_watchdog.specs.Value.{WatchesValue, watch_in, watchdog_of}
use Rattle.lr_watchdog.proofs.Watchdogs.{IsWatches-put, asked_put, asked_valid, slot_valid}
use Rattle.lr_watchdog.proofs.watches.Watches.renew_asked.Goals as goal

-- the slot with the renewal
abbrev slot_after : goal.After-set_slot → Slot
slot_after c = record {
  watch = Some c.in-Some.watch;
  renewal = Some (record { generation = c.in-Some.watch.generation; at = c.args.moment });
}

pub invariant_of-self : goal.invariant_of-self
invariant_of-self c =
    let s = c.self.inside in
    let before = slot_valid s.lease s.slots.entries s.due c.args.key.now c.find_slot-before.result
    c.self.invariant c.find_slot-before.ensures in
    IsWatches-put s.lease s.slots.entries c.set_slot.new.slots.entries s.due c.set_slot.new.due
    c.args.key.now (slot_after c) c.self.invariant c.set_slot.ensures.at c.set_slot.ensures.due
    (asked_valid c.args.moment c.in-Some.watch c.requires
    (before.watch c.in-Some.watch c.in-Some.is))

pub returns-clause-ok : goal.returns-clause-ok
returns-clause-ok c =
    let s = c.self.inside in
    let there : watch_in s.slots.entries c.args.key.now ≡ Some c.in-Some.watch =
    sym (ap (λ (slot : Slot). slot.watch) c.find_slot-before.ensures) ∙ c.in-Some.is in
    asked_put s.lease s.generation s.generation s.slots.entries c.set_slot.new.slots.entries
    c.args.key.now (slot_after c) c.set_slot.ensures.at c.args.moment c.in-Some.watch there
    refl refl
    ∙ ap (λ (value : WatchesValue). renewal_asked c.args.moment c.args.key.now (watchdog_of value))
    c.self.view_is
