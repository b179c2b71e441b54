use Rattle.std.proofs.Common.{◌≡◌, ℕ, List, Some, false, refl, ap, ◌∙◌, arith}
use Rattle.std.specs.Str.{bytes_eq}
use Rattle.std.specs.Map.{lookup}
use Rattle.indexmap.specs.IndexMap.{get}
use Rattle.lr_keys.specs.declared.key_space.KeySpace.TheInside.{Inside}
use Rattle.lr_keys.specs.Slots.{new_slot}
use Rattle.lr_keys.specs.Table.{with_key}
use Rattle.lr_keys.proofs.SlotLemmas.{AreExpiries-pushed, IsKeySpace-grown, IsKeySpace-roomier, IsLive-made, entry_at-made, plan_at-same, slot_absent}
use Rattle.lr_keys.proofs.key_space.KeySpace.make_key.Goals as goal

pub invariant_of-self : goal.invariant_of-self
invariant_of-self c =
    let made = c.make_place.ensures in
    IsKeySpace-roomier c.self.inside
    (record c.self.inside { slots = c.make_place.new.slots; expiries = c.make_place.new.expiries })
    c.self.invariant refl refl made.entries made.expiries made.longer made.kept

pub insert_slot-requires-clause-absent : goal.insert_slot-requires-clause-absent
insert_slot-requires-clause-absent c =
    ap (lookup (bytes_eq c.args.key.now)) c.make_place.ensures.entries
    ∙ slot_absent c.self.inside c.args.self.now c.args.key.now c.self.view_is c.requires

-- the fields after the call
abbrev after : goal.After-insert_slot → Inside
after c = record c.self.inside {
  slots = c.insert_slot.new.slots;
  expiries = c.make_place.new.expiries;
}

sets : (c : goal.After-insert_slot) (q : List ℕ)
    → get bytes_eq (after c).slots q
    ≡ with_key c.args.key.now (Some (new_slot c.in_ok-value.value)) (get bytes_eq c.self.inside.slots)
    q
sets c q = c.insert_slot.ensures.slots q
    ∙ ap (λ es. with_key c.args.key.now (Some (new_slot c.in_ok-value.value))
    (λ k. lookup (bytes_eq k) es) q) c.make_place.ensures.entries

pub invariant_of-self-2 : goal.invariant_of-self-2
invariant_of-self-2 c =
    let inside = c.self.inside in
    let value = c.in_ok-value.value in
    IsKeySpace-grown inside (after c) c.args.key.now
    (new_slot value) false c.self.invariant refl (sets c) (λ q. refl)
    (AreExpiries-pushed c.make_place.new.slots.entries c.insert_slot.new.slots.entries
    c.make_place.new.expiries c.args.key.now value c.make_place.ensures.expiries
    c.insert_slot.ensures.entries (omega (arith, c.in_ok-make_place.ensures.places)))
    (omega (arith, c.in_ok-make_place.ensures.places, c.insert_slot.ensures.len))
    (omega (arith, c.in_ok-make_place.ensures.room, c.insert_slot.ensures.room))
    (IsLive-made inside.moment value c.args.addition.now c.in_ok-value.ensures.value)
    (λ unspent room. c.in_ok-value.ensures.room)

pub returns-clause-entry : goal.returns-clause-entry
returns-clause-entry c =
    entry_at-made c.self.inside (after c) c.args.self.now c.args.key.now c.in_ok-value.value
    c.args.addition.now c.self.view_is c.requires (sets c) c.in_ok-value.ensures.value

pub returns-clause-prepared : goal.returns-clause-prepared
returns-clause-prepared c = plan_at-same c.self.inside (after c) c.args.self.now c.self.view_is refl
