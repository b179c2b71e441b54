use Rattle.std.proofs.Common.{◌≡◌, ◌<◌, ℕ, List, Some, true, refl, sym, ap, subst, ◌∙◌, arith}
use Rattle.std.specs.Option.{option_copied_mut}
use Rattle.std.specs.Str.{bytes_eq}
use Rattle.indexmap.specs.IndexMap.{get}
use Rattle.lr_keys.specs.declared.key_space.KeySpace.TheInside.{Inside}
use Rattle.lr_keys.specs.declared.slot.Slot.{Slot}
use Rattle.lr_keys.specs.Addition.{entry_with, kind_added, member_added}
use Rattle.lr_keys.specs.KeySpace.{count_at, member_count}
use Rattle.lr_keys.specs.Slots.{content_of}
use Rattle.lr_keys.specs.Table.{with_key}
use Rattle.lr_limits.specs.Limits.{member_limit}
use Rattle.lr_keys.proofs.SlotLemmas.{AreExpiries-through, HasRoom-planned, IsKeySpace-grown, IsSome-lent, IsSome-planned, IsSpareFor-planned, IsLiveSlot-with, entry_at-changed, entry_at-read, is_some-entry_at, plan_at-spent, sets_written}
use Rattle.lr_keys.proofs.key_space.KeySpace.put_member.Goals as goal

pub take_spare-value-requires : goal.take_spare-value-requires
take_spare-value-requires c =
    IsSome-planned c.self.inside c.args.self.now c.args.key.now (member_added c.args.addition.now)
    (kind_added c.args.addition.now) c.self.view_is c.requires.prepared

pub unwrap-slot-requires : goal.unwrap-slot-requires
unwrap-slot-requires c =
    let shows = entry_at-read c.self.inside c.args.self.now c.args.key.now
    (get bytes_eq c.self.inside.slots c.args.key.now) c.self.view_is refl in
    IsSome-lent c.get_mut.result _ c.get_mut.ensures.value
    (is_some-entry_at c.args.self.now c.args.key.now _ shows ∙ c.requires.there)

pub put_spare-requires : goal.put_spare-requires
put_spare-requires c =
    let found = sym (ap option_copied_mut c.unwrap-slot.ensures) ∙ c.get_mut.ensures.value in
    record {
      room = HasRoom-planned c.self.inside c.args.self.now c.args.key.now
          (member_added c.args.addition.now) (kind_added c.args.addition.now)
          c.unwrap-slot.result.now c.self.invariant c.self.view_is found c.requires.prepared;
      spare = IsSpareFor-planned c.self.inside c.args.self.now c.args.key.now
          (member_added c.args.addition.now) (kind_added c.args.addition.now)
          c.take_spare-value.result c.self.invariant c.self.view_is c.requires.prepared
          c.take_spare-value.ensures.spare;
    }

-- the slot and the fields after the call
abbrev slot_after : goal.After-self-1 → Slot
slot_after c = record c.unwrap-slot.result.now { value = c.put_spare.new.self }

abbrev after : goal.After-self-1 → Inside
after c = record c.self.inside {
  slots = c.get_mut.follows.lender (slot_after c);
  spares = c.take_spare-value.new.spares;
}

found : (c : goal.After-self-1)
    → Some c.unwrap-slot.result.now ≡ get bytes_eq c.self.inside.slots c.args.key.now
found c = sym (ap option_copied_mut c.unwrap-slot.ensures) ∙ c.get_mut.ensures.value

sets : (c : goal.After-self-1) (q : List ℕ)
    → get bytes_eq (after c).slots q
    ≡ with_key c.args.key.now (Some (slot_after c)) (get bytes_eq c.self.inside.slots) q
sets c = sets_written c.self.inside.slots _ c.args.key.now c.unwrap-slot.result.now (slot_after c)
    (found c) (c.get_mut.follows.holds (slot_after c))

-- the value has fewer members than a key may have
few : (c : goal.After-self-1)
    → member_count (content_of c.unwrap-slot.result.now.value) < member_limit
few c = subst (λ e. count_at e < member_limit)
    (entry_at-read c.self.inside c.args.self.now c.args.key.now (Some c.unwrap-slot.result.now)
    c.self.view_is (found c)) c.requires.few

pub invariant_of-self : goal.invariant_of-self
invariant_of-self c =
    let inside = c.self.inside in
    let u = c.unwrap-slot.result.now in
    let sound = c.self.invariant.slots c.args.key.now u (sym (found c)) in
    let writes = c.get_mut.follows.holds (slot_after c) in
    IsKeySpace-grown inside (after c) c.args.key.now
    (slot_after c) true c.self.invariant refl (sets c) c.take_spare-value.ensures.spares
    (AreExpiries-through inside (after c) c.args.key.now u (slot_after c) c.self.invariant refl
    (found c) writes.0 refl)
    (omega (arith, writes.2, c.self.invariant.places, c.take_spare-value.ensures.fewer))
    (omega (arith, c.self.invariant.room, c.take_spare-value.ensures.fewer, writes.6))
    (IsLiveSlot-with inside.moment u c.put_spare.new.self c.args.addition.now
    sound c.put_spare.ensures (few c))
    (λ unspent. absurd (cc unspent))

pub returns-clause-entry : goal.returns-clause-entry
returns-clause-entry c =
    let u = c.unwrap-slot.result.now in
    entry_at-changed c.self.inside (after c) c.args.self.now c.args.key.now (Some u)
    (Some (slot_after c)) (λ e. Some (entry_with c.args.addition.now e))
    c.self.view_is (found c) (sets c)
    (ap (λ v. Some (record { value = v; expiry = u.expiry })) c.put_spare.ensures)

pub returns-clause-prepared : goal.returns-clause-prepared
returns-clause-prepared c =
    plan_at-spent c.self.inside
    (after c) c.args.self.now c.args.key.now true c.self.view_is c.take_spare-value.ensures.spares
