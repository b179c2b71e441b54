use Rattle.std.proofs.Common.{◌≡◌, ℕ, List, refl, sym, ap, subst, ◌∙◌, arith, Some}
use Rattle.std.specs.Option.{option_copied_mut}
use Rattle.std.specs.Str.{bytes_eq}
use Rattle.indexmap.specs.IndexMap.{get}
use Rattle.lr_keys.specs.declared.key_space.KeySpace.TheInside.{Inside}
use Rattle.lr_keys.specs.declared.slot.Slot.{Slot}
use Rattle.lr_keys.specs.Addition.{entry_with}
use Rattle.lr_keys.specs.Table.{with_key}
use Rattle.lr_keys.specs.Slots.{HasMember, HasMemberAt, IsLiveSlot, content_of}
use Rattle.lr_keys.proofs.SlotLemmas.{AreExpiries-through, ForSome-some, IsKeySpace-set, IsRoomFor-some, IsSome-lent, IsSome-member, IsLiveSlot-there, entry_at-changed, entry_at-read, plan_at-same, sets_written}
use Rattle.lr_keys.proofs.key_space.KeySpace.write_member.Goals as goal

-- the slot and the fields after the call
abbrev slot_after : goal.After-self-1 → Slot
slot_after c = record c.unwrap-slot.result.now { value = c.write.new.self }

abbrev after : goal.After-self-1 → Inside
after c = record c.self.inside { slots = c.get_mut.follows.lender (slot_after c) }

-- the slot that the key has before the call
found : (c : goal.After-self-1)
    → Some c.unwrap-slot.result.now ≡ get bytes_eq c.self.inside.slots c.args.key.now
found c = sym (ap option_copied_mut c.unwrap-slot.ensures) ∙ c.get_mut.ensures.value

-- it has the member
there : (c : goal.After-self-1)
    → HasMember c.args.addition.now (content_of c.unwrap-slot.result.now.value)
there c = subst (HasMemberAt c.args.addition.now)
    (entry_at-read c.self.inside c.args.self.now c.args.key.now (Some c.unwrap-slot.result.now)
    c.self.view_is (found c)) c.requires

sets : (c : goal.After-self-1) (q : List ℕ)
    → get bytes_eq (after c).slots q
    ≡ with_key c.args.key.now (Some (slot_after c)) (get bytes_eq c.self.inside.slots) q
sets c = sets_written c.self.inside.slots _ c.args.key.now c.unwrap-slot.result.now (slot_after c)
    (found c) (c.get_mut.follows.holds (slot_after c))

pub unwrap-slot-requires : goal.unwrap-slot-requires
unwrap-slot-requires c =
    let shows = entry_at-read c.self.inside c.args.self.now c.args.key.now
    (get bytes_eq c.self.inside.slots c.args.key.now) c.self.view_is refl in
    IsSome-lent c.get_mut.result _ c.get_mut.ensures.value
    (IsSome-member c.args.self.now c.args.key.now c.args.addition.now _ shows c.requires)

pub write-requires : goal.write-requires
write-requires c =
    let found = sym (ap option_copied_mut c.unwrap-slot.ensures) ∙ c.get_mut.ensures.value in
    subst (HasMemberAt c.args.addition.now)
    (entry_at-read c.self.inside c.args.self.now c.args.key.now (Some c.unwrap-slot.result.now)
    c.self.view_is found) c.requires

pub invariant_of-self : goal.invariant_of-self
invariant_of-self c =
    let inside = c.self.inside in
    let u = c.unwrap-slot.result.now in
    let sound = c.self.invariant.slots c.args.key.now u (sym (found c)) in
    let writes = c.get_mut.follows.holds (slot_after c) in
    IsKeySpace-set inside (after c) c.args.key.now (Some (slot_after c)) c.self.invariant refl
    refl (sets c) (AreExpiries-through inside (after c) c.args.key.now u (slot_after c)
    c.self.invariant refl (found c) writes.0 refl)
    (omega (arith, writes.2)) refl (omega (arith, writes.6))
    (ForSome-some (IsLiveSlot inside.moment) (slot_after c)
    (IsLiveSlot-there inside.moment u c.write.new.self c.args.addition.now sound
    c.write.ensures.value (there c)))
    (IsRoomFor-some _ u (slot_after c) (found c) c.write.ensures.room)

pub returns-clause-entry : goal.returns-clause-entry
returns-clause-entry c =
    let u = c.unwrap-slot.result.now in
    entry_at-changed c.self.inside (after c) c.args.self.now c.args.key.now (Some u)
    (Some (slot_after c)) (λ e. Some (entry_with c.args.addition.now e))
    c.self.view_is (found c) (sets c)
    (ap (λ v. Some (record { value = v; expiry = u.expiry })) c.write.ensures.value)

pub returns-clause-prepared : goal.returns-clause-prepared
returns-clause-prepared c = plan_at-same c.self.inside (after c) c.args.self.now c.self.view_is refl
