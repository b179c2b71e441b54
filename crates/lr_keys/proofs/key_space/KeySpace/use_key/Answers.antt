use Rattle.std.proofs.Common.{true, refl, arith}
use Rattle.lr_keys.specs.declared.key_space.KeySpace.TheInside.{Inside}
use Rattle.lr_keys.specs.Addition.{kind_added, member_added}
use Rattle.lr_keys.specs.Slots.{new_slot}
use Rattle.lr_keys.proofs.SlotLemmas.{AreExpiries-pushed, IsKeySpace-grown, IsLive-made, IsSome-planned, IsSpareFor-planned, entry_at-made, plan_at-spent, slot_absent}
use Rattle.lr_keys.proofs.key_space.KeySpace.use_key.Goals as goal

pub take_spare-value-requires : goal.take_spare-value-requires
take_spare-value-requires c =
    IsSome-planned c.self.inside c.args.self.now c.args.key.now (member_added c.args.addition.now)
    (kind_added c.args.addition.now) c.self.view_is c.requires.prepared

pub made-requires : goal.made-requires
made-requires c =
    IsSpareFor-planned c.self.inside c.args.self.now c.args.key.now
    (member_added c.args.addition.now) (kind_added c.args.addition.now)
    c.take_spare-value.result c.self.invariant c.self.view_is c.requires.prepared
    c.take_spare-value.ensures.spare

pub insert_slot-requires-clause-absent : goal.insert_slot-requires-clause-absent
insert_slot-requires-clause-absent c =
    slot_absent c.self.inside c.args.self.now c.args.key.now c.self.view_is c.requires.absent

-- the fields after the call
abbrev after : goal.After-insert_slot → Inside
after c = record c.self.inside { slots = c.insert_slot.new.slots; spares = c.take_spare-value.new.spares }

pub invariant_of-self : goal.invariant_of-self
invariant_of-self c =
    let inside = c.self.inside in
    let value = c.made.result in
    IsKeySpace-grown inside (after c) c.args.key.now
    (new_slot value) true c.self.invariant refl c.insert_slot.ensures.slots
    c.take_spare-value.ensures.spares
    (AreExpiries-pushed inside.slots.entries c.insert_slot.new.slots.entries inside.expiries
    c.args.key.now value c.self.invariant.expiries c.insert_slot.ensures.entries
    (omega (arith, c.self.invariant.places, c.take_spare-value.ensures.fewer)))
    (omega (
      arith,
      c.self.invariant.places,
      c.take_spare-value.ensures.fewer,
      c.insert_slot.ensures.len,
    ))
    (omega (arith, c.self.invariant.room, c.take_spare-value.ensures.fewer, c.insert_slot.ensures.room))
    (IsLive-made inside.moment value c.args.addition.now c.made.ensures.value)
    (λ unspent. absurd (cc unspent))

pub returns-clause-entry : goal.returns-clause-entry
returns-clause-entry c =
    entry_at-made c.self.inside (after c) c.args.self.now c.args.key.now c.made.result
    c.args.addition.now c.self.view_is c.requires.absent c.insert_slot.ensures.slots
    c.made.ensures.value

pub returns-clause-prepared : goal.returns-clause-prepared
returns-clause-prepared c =
    plan_at-spent c.self.inside
    (after c) c.args.self.now c.args.key.now true c.self.view_is c.take_spare-value.ensures.spares
