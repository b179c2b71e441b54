use Rattle.std.proofs.Common.{◌≡◌, Option, Some, refl, sym, ap, subst, ◌∙◌}
use Rattle.std.specs.Cmp.Lexicographic.{nat_list_eq_equiv}
use Rattle.std.specs.Option.{option_copied_mut}
use Rattle.std.specs.Str.{bytes_eq}
use Rattle.indexmap.proofs.CallerLemmas.{index_map_len-with_value_at, updates-with_value_at}
use Rattle.indexmap.specs.IndexMap.{get, set_value_at}
use Rattle.lr_keys.specs.declared.slot.Slot.{Slot}
use Rattle.lr_keys.specs.Slots.{AreExpiries}
use Rattle.lr_keys.specs.Table.{with_key}
use Rattle.lr_keys.proofs.ExpiryLemmas.{AreExpiries-set, entry_at_place}
use Rattle.lr_keys.proofs.expiry.set_expiry.Goals as goal

-- the slot after the call
abbrev slot_after : goal.After-set → Slot
slot_after c = record c.unwrap-slot.result.now { expiry = Some c.args.expiry }

pub returns-clause-slots : goal.returns-clause-slots
returns-clause-slots c = λ x at q.
    let slots = c.args.slots.now in
    let key = c.args.key.now in
    let place = c.in-Some.place in
    let u = c.unwrap-slot.result.now in
    let value = sym c.get_index_mut.ensures.value ∙ ap option_copied_mut c.unwrap-slot.ensures in
    let found = entry_at_place slots.entries key place u (sym c.in-Some.ensures.index) value in
    let same : ◌≡◌ {A = Option Slot} (Some u) (Some x) =
    sym value ∙ c.in-Some.ensures.value ∙ at in
    let one : u ≡ x = cc same in
    (updates-with_value_at slots place (slot_after c) nat_list_eq_equiv
    c.get_index_of.ensures.unique key u found).0 q
    ∙ ap (λ (y : Slot). with_key key (Some (record y { expiry = Some c.args.expiry }))
    (get bytes_eq slots) q) one

pub returns-clause-expiries : goal.returns-clause-expiries
returns-clause-expiries c =
    let place = c.in-Some.place in
    subst (AreExpiries (set_value_at c.args.slots.now.entries place (slot_after c)))
    (sym c.set.ensures)
    (AreExpiries-set c.args.slots.now.entries c.args.expiries.now place (slot_after c)
    c.args.expiry c.requires c.in-Some.ensures.within refl)

pub returns-clause-len : goal.returns-clause-len
returns-clause-len c =
    index_map_len-with_value_at c.args.slots.now c.in-Some.place (slot_after c)
