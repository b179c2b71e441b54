use Rattle.std.proofs.Common.{sym, ap, ◌∙◌}
use Rattle.std.specs.Str.{bytes_eq}
use Rattle.lr_keys.specs.declared.slot.Slot.{Slot}
use Rattle.lr_keys.specs.Slots.{key_entries_of}
use Rattle.lr_keys.proofs.SlotLemmas.{KeepsSlot-written, key_entries_of-set_value}
use Rattle.lr_keys.proofs.tables.make_room.Goals as goal

pub returns-in-Some-clause-shown : goal.returns-in-Some-clause-shown
returns-in-Some-clause-shown c =
    let u = c.in-Some.slot.now in
    let w : Slot = record u { value = c.make_room.new.self } in
    ap key_entries_of (c.get_mut.follows.holds w).0
    ∙ key_entries_of-set_value (bytes_eq c.args.key.now) c.args.slots.now.entries u w
    (sym c.in-Some.ensures.value)
    (ap (λ v. record { value = v; expiry = u.expiry }) c.make_room.ensures.value)

pub returns-in-Some-clause-kept : goal.returns-in-Some-clause-kept
returns-in-Some-clause-kept c =
    let u = c.in-Some.slot.now in
    let w : Slot = record u { value = c.make_room.new.self } in
    KeepsSlot-written c.args.slots.now (c.get_mut.follows.lender w) c.args.key.now u w
    c.in-Some.ensures.value (c.get_mut.follows.holds w)
    (ap (λ v. record { value = v; expiry = u.expiry }) c.make_room.ensures.value)
    c.make_room.ensures.kept
