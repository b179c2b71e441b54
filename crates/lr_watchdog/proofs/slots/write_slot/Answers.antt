use Rattle.std.proofs.Common.{Some, sym, ◌∙◌, arith}
use Rattle.lr_watchdog.proofs.Rows.{slot_set, stored}
use Rattle.lr_watchdog.proofs.Places.{AreDue-put, none_added}
use Rattle.lr_watchdog.proofs.slots.write_slot.Goals as goal

pub set-requires : goal.set-requires
set-requires c =
    let rows = c.args.slots.now.entries in
    let there = stored rows c.args.key.now c.requires.stored in
    omega (
      arith,
      c.in-Ok.ensures.within,
      c.in-Ok.ensures.len,
      c.requires.due.room,
      none_added c.in-Ok.field-0-1 (λ none. there (sym c.in-Ok.ensures.old ∙ none)),
    )

pub returns-in-Ok-clause-at : goal.returns-in-Ok-clause-at
returns-in-Ok-clause-at c =
    slot_set c.args.key.now (Some c.args.slot) c.args.slots.now.entries
    c.insert_full.new.self.entries c.in-Ok.ensures.updates.0

pub returns-in-Ok-clause-due : goal.returns-in-Ok-clause-due
returns-in-Ok-clause-due c =
    let rows = c.args.slots.now.entries in
    let there = stored rows c.args.key.now c.requires.stored in
    AreDue-put rows c.insert_full.new.self.entries c.args.due.now c.set.new.self c.args.key.now
    c.args.slot c.in-Ok.place c.due_in.result c.requires.due c.in-Ok.ensures.entries
    c.in-Ok.ensures.index c.in-Ok.ensures.within
    (omega (
      arith,
      c.in-Ok.ensures.len,
      c.requires.due.room,
      none_added c.in-Ok.field-0-1 (λ none. there (sym c.in-Ok.ensures.old ∙ none)),
    ))
    c.due_in.ensures c.set.ensures

pub returns-in_default-clause-at : goal.returns-in_default-clause-at
returns-in_default-clause-at c =
    absurd (stored c.args.slots.now.entries c.args.key.now c.requires.stored
    c.in_default.ensures.absent)
