use Rattle.std.proofs.Common.{refl, ap, ◌∙◌, arith, None}
use Rattle.lr_keys.specs.declared.key_space.KeySpace.TheInside.{Inside}
use Rattle.lr_keys.specs.Slots.{key_entries_of}
use Rattle.lr_keys.proofs.SlotLemmas.{entry_at-read, entry_at-set, is_some-entry_at, keys_inside-same, plan_at-same, IsKeySpace-set}
use Rattle.lr_keys.proofs.key_space.KeySpace.del.Goals as goal

-- the fields after the call
abbrev after : goal.After-remove_slot → Inside
after c = record c.self.inside {
  slots = c.remove_slot.new.slots;
  expiries = c.remove_slot.new.expiries;
}

pub invariant_of-self : goal.invariant_of-self
invariant_of-self c =
    let removed = c.remove_slot.ensures in
    IsKeySpace-set c.self.inside (after c) c.args.key.now None c.self.invariant refl refl
    removed.slots removed.expiries (omega (arith, removed.fewer)) removed.places removed.room
    (λ slot at. absurd (cc at)) (λ h. tt)

pub returns-clause-found : goal.returns-clause-found
returns-clause-found c =
    c.remove_slot.ensures.found ∙ is_some-entry_at _ _ _
    (entry_at-read c.self.inside c.args.self.now c.args.key.now _ c.self.view_is refl)

pub returns-clause-removed : goal.returns-clause-removed
returns-clause-removed c =
    entry_at-set c.self.inside (after c) c.args.self.now c.args.key.now None c.self.view_is
    c.remove_slot.ensures.slots

pub returns-clause-prepared : goal.returns-clause-prepared
returns-clause-prepared c = plan_at-same c.self.inside (after c) c.args.self.now c.self.view_is refl

pub returns-clause-absent : goal.returns-clause-absent
returns-clause-absent c = λ absent.
    keys_inside-same c.self.inside (after c) refl refl
    (ap key_entries_of (c.remove_slot.ensures.absent absent)) ∙ c.self.view_is
