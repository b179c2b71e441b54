use Rattle.std.proofs.Common.{Some, is_some, arith}
use Rattle.lr_watchdog.proofs.Rows.{slot_set}
use Rattle.lr_watchdog.proofs.Places.{AreDue-longer, AreDue-put, one_at_most}
use Rattle.lr_watchdog.proofs.slots.add_slot.Goals as goal

pub returns-clause-at : goal.returns-clause-at
returns-clause-at c =
    slot_set c.args.key.now (Some c.args.slot) c.args.slots.now.entries
    c.insert_full.new.self.entries c.in_ok-place.ensures.updates.0

pub returns-clause-due : goal.returns-clause-due
returns-clause-due c =
    AreDue-put c.args.slots.now.entries c.insert_full.new.self.entries c.reserve.new.self
    c.set.new.self c.args.key.now c.args.slot c.in_ok-place.place c.due_in.result
    (AreDue-longer c.args.slots.now.entries c.args.due.now c.reserve.new.self
    c.reserve.ensures.longer c.requires)
    c.in_ok-place.ensures.entries c.in_ok-place.ensures.index c.in_ok-place.ensures.within
    (omega (
      arith,
      c.in_ok-place.ensures.len,
      c.in_ok-reserve.ensures.ok,
      c.len.ensures.len,
      one_at_most (is_some c.in_ok-place.field-0-1),
    ))
    c.due_in.ensures c.set.ensures
