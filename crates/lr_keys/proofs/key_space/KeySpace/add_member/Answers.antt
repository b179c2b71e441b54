use Rattle.std.proofs.Common.{◌≡◌, ◌<◌, ℕ, List, Some, refl, sym, ap, subst, ◌∙◌, arith}
use Rattle.std.specs.Option.{option_copied_mut}
use Rattle.std.specs.Str.{bytes_eq}
use Rattle.indexmap.specs.IndexMap.{get}
use Rattle.lr_keys.specs.declared.key_space.KeySpace.TheInside.{Inside}
use Rattle.lr_keys.specs.declared.slot.Slot.{Slot}
use Rattle.lr_keys.specs.Addition.{entry_with}
use Rattle.lr_keys.specs.KeySpace.{count_at, member_count}
use Rattle.lr_keys.specs.Slots.{IsLiveSlot, key_entries_of, content_of}
use Rattle.lr_keys.specs.Table.{with_key}
use Rattle.lr_limits.specs.Limits.{member_limit}
use Rattle.lr_keys.proofs.SlotLemmas.{AreExpiries-through, OnErr-then, OnOk-then, ForSome-some, IsKeySpace-set, IsRoomFor-some, IsSome-lent, IsLiveSlot-added, entry_at-changed, entry_at-read, is_some-entry_at, plan_at-same, sets_written, key_entries_of-set_value, keys_inside-same}
use Rattle.lr_keys.proofs.key_space.KeySpace.add_member.Goals as goal

pub unwrap-slot-requires : goal.unwrap-slot-requires
unwrap-slot-requires c =
    let shows = entry_at-read c.self.inside c.args.self.now c.args.key.now
    (get bytes_eq c.self.inside.slots c.args.key.now) c.self.view_is refl in
    IsSome-lent c.get_mut.result _ c.get_mut.ensures.value
    (is_some-entry_at c.args.self.now c.args.key.now _ shows ∙ c.requires.there)

-- the slot and the fields after the call
abbrev slot_after : goal.After-self-1 → Slot
slot_after c = record c.unwrap-slot.result.now { value = c.add.new.self }

abbrev after : goal.After-self-1 → Inside
after c = record c.self.inside { slots = c.get_mut.follows.lender (slot_after c) }

found : (c : goal.After-self-1)
    → Some c.unwrap-slot.result.now ≡ get bytes_eq c.self.inside.slots c.args.key.now
found c = sym (ap option_copied_mut c.unwrap-slot.ensures) ∙ c.get_mut.ensures.value

sets : (c : goal.After-self-1) (q : List ℕ)
    → get bytes_eq (after c).slots q
    ≡ with_key c.args.key.now (Some (slot_after c)) (get bytes_eq c.self.inside.slots) q
sets c = sets_written c.self.inside.slots _ c.args.key.now c.unwrap-slot.result.now (slot_after c)
    (found c) (c.get_mut.follows.holds (slot_after c))

-- the value has fewer members than a key may have
few : (c : goal.After-self-1)
    → member_count (content_of c.unwrap-slot.result.now.value) < member_limit
few c = subst (λ e. count_at e < member_limit)
    (entry_at-read c.self.inside c.args.self.now c.args.key.now (Some c.unwrap-slot.result.now)
    c.self.view_is (found c)) c.requires.few

pub invariant_of-self : goal.invariant_of-self
invariant_of-self c =
    let inside = c.self.inside in
    let u = c.unwrap-slot.result.now in
    let writes = c.get_mut.follows.holds (slot_after c) in
    IsKeySpace-set inside (after c) c.args.key.now (Some (slot_after c)) c.self.invariant refl
    refl (sets c) (AreExpiries-through inside (after c) c.args.key.now u (slot_after c)
    c.self.invariant refl (found c) writes.0 refl)
    (omega (arith, writes.2)) refl (omega (arith, writes.6))
    (ForSome-some (IsLiveSlot inside.moment) (slot_after c)
    (IsLiveSlot-added c.add.result inside.moment u c.add.new.self c.args.addition.now
    (c.self.invariant.slots c.args.key.now u (sym (found c))) c.add.ensures.ok
    c.add.ensures.err (few c)))
    (IsRoomFor-some _ u (slot_after c) (found c) c.add.ensures.room)

pub returns-clause-entry : goal.returns-clause-entry
returns-clause-entry c =
    let u = c.unwrap-slot.result.now in
    OnOk-then c.add.result (λ e.
    entry_at-changed c.self.inside (after c) c.args.self.now c.args.key.now (Some u)
    (Some (slot_after c)) (λ x. Some (entry_with c.args.addition.now x))
    c.self.view_is (found c) (sets c)
    (ap (λ v. Some (record { value = v; expiry = u.expiry })) e)) c.add.ensures.ok

pub returns-clause-prepared : goal.returns-clause-prepared
returns-clause-prepared c = plan_at-same c.self.inside (after c) c.args.self.now c.self.view_is refl

pub returns-clause-err : goal.returns-clause-err
returns-clause-err c =
    let u = c.unwrap-slot.result.now in
    OnErr-then c.add.result (λ e.
    let same = ap (λ v. record { value = v; expiry = u.expiry }) e in
    let entries = ap key_entries_of (c.get_mut.follows.holds (slot_after c)).0
    ∙ key_entries_of-set_value (bytes_eq c.args.key.now) c.self.inside.slots.entries u
    (slot_after c) (sym (found c)) same in
    keys_inside-same c.self.inside (after c) refl refl entries ∙ c.self.view_is)
    c.add.ensures.err
