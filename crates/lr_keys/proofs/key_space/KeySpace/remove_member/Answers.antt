use Rattle.std.proofs.Common.{◌≡◌, ℕ, List, Option, Some, None, if◌then◌else◌, refl, sym, ap, ◌∙◌, arith}
use Rattle.std.specs.Option.{option_copied_mut}
use Rattle.std.specs.Str.{bytes_eq}
use Rattle.indexmap.specs.IndexMap.{get}
use Rattle.lr_keys.specs.declared.key_space.KeySpace.TheInside.{Inside}
use Rattle.lr_keys.specs.declared.slot.Slot.{Slot}
use Rattle.lr_keys.specs.Addition.{entry_without}
use Rattle.lr_keys.specs.Table.{with_key}
use Rattle.lr_keys.proofs.SlotLemmas.{AreExpiries-through, IsKeySpace-set, IsRoomFor-without, IsSome-lent, IsLiveSlot-without, entry_at-changed, entry_at-read, is_some-entry_at, plan_at-same, sets_then_gone, sets_written, key_entry_of-without}
use Rattle.lr_keys.proofs.key_space.KeySpace.remove_member.Goals as goal

pub unwrap-slot-requires : goal.unwrap-slot-requires
unwrap-slot-requires c =
    let shows = entry_at-read c.self.inside c.args.self.now c.args.key.now
    (get bytes_eq c.self.inside.slots c.args.key.now) c.self.view_is refl in
    IsSome-lent c.get_mut.result _ c.get_mut.ensures.value
    (is_some-entry_at c.args.self.now c.args.key.now _ shows ∙ c.requires)

-- the slot without the member, what the key has then, and the fields after the call
abbrev slot_without : goal.After-remove_slot_if → Slot
slot_without c = record c.unwrap-slot.result.now { value = c.remove-emptied.new.self }

abbrev left : goal.After-remove_slot_if → Option Slot
left c = if c.remove-emptied.result then None else Some (slot_without c)

abbrev after : goal.After-remove_slot_if → Inside
after c = record c.self.inside {
  slots = c.remove_slot_if.new.slots;
  expiries = c.remove_slot_if.new.expiries;
}

found : (c : goal.After-remove_slot_if)
    → Some c.unwrap-slot.result.now ≡ get bytes_eq c.self.inside.slots c.args.key.now
found c = sym (ap option_copied_mut c.unwrap-slot.ensures) ∙ c.get_mut.ensures.value

sets : (c : goal.After-remove_slot_if) (q : List ℕ)
    → get bytes_eq (after c).slots q
    ≡ with_key c.args.key.now (left c) (get bytes_eq c.self.inside.slots) q
sets c =
    let writes = sets_written c.self.inside.slots _ c.args.key.now c.unwrap-slot.result.now
    (slot_without c) (found c) (c.get_mut.follows.holds (slot_without c)) in
    sets_then_gone (get bytes_eq c.self.inside.slots) _
    (get bytes_eq (after c).slots) c.args.key.now
    (slot_without c) c.remove-emptied.result writes c.remove_slot_if.ensures.slots

pub remove_slot_if-requires : goal.remove_slot_if-requires
remove_slot_if-requires c =
    let u = c.unwrap-slot.result.now in
    let w : Slot = record u { value = c.remove-emptied.new.self } in
    let found = sym (ap option_copied_mut c.unwrap-slot.ensures) ∙ c.get_mut.ensures.value in
    AreExpiries-through c.self.inside (record c.self.inside { slots = c.get_mut.follows.lender w })
    c.args.key.now u w c.self.invariant refl found (c.get_mut.follows.holds w).0 refl

pub invariant_of-self : goal.invariant_of-self
invariant_of-self c =
    let inside = c.self.inside in
    let u = c.unwrap-slot.result.now in
    let removed = c.remove-emptied.ensures in
    let writes = c.get_mut.follows.holds (slot_without c) in
    IsKeySpace-set inside (after c) c.args.key.now (left c) c.self.invariant refl refl
    (sets c) c.remove_slot_if.ensures.expiries
    (omega (arith, writes.2, c.remove_slot_if.ensures.fewer)) c.remove_slot_if.ensures.places
    (omega (arith, writes.6, c.remove_slot_if.ensures.room))
    (IsLiveSlot-without inside.moment u _ c.args.kind c.args.member.now _
    (c.self.invariant.slots c.args.key.now u (sym (found c))) removed.empty removed.value)
    (IsRoomFor-without _ u (slot_without c) _ (found c) removed.room)

pub returns-clause-entry : goal.returns-clause-entry
returns-clause-entry c =
    let u = c.unwrap-slot.result.now in
    let removed = c.remove-emptied.ensures in
    entry_at-changed c.self.inside (after c) c.args.self.now c.args.key.now (Some u) (left c)
    (entry_without c.args.kind c.args.member.now) c.self.view_is (found c) (sets c)
    (key_entry_of-without u _ c.args.kind c.args.member.now _ removed.empty removed.value)

pub returns-clause-prepared : goal.returns-clause-prepared
returns-clause-prepared c = plan_at-same c.self.inside (after c) c.args.self.now c.self.view_is refl
