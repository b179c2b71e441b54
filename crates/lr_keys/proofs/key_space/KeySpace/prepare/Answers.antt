use Rattle.std.proofs.Common.{Some, refl, ap, ◌∙◌, arith}
use Rattle.std.specs.Str.{bytes_eq}
use Rattle.indexmap.specs.IndexMap.{get}
use Rattle.lr_keys.specs.declared.key_space.KeySpace.TheInside.{Inside}
use Rattle.lr_keys.specs.KeySpace.{Plan, plan_at}
use Rattle.lr_keys.specs.Slots.{IsReadySpare, key_entries_of}
use Rattle.lr_keys.specs.Table.{with_key}
use Rattle.lr_keys.proofs.ExpiryLemmas.{length_shown}
use Rattle.lr_keys.proofs.SlotLemmas.{IsKeySpace-prepared, IsKeySpace-roomier, IsKeySpace-KeepsSlot, entry_at-same, one_at_most, plan_at-set}
use Rattle.lr_keys.proofs.key_space.KeySpace.prepare.Goals as goal

pub invariant_of-self : goal.invariant_of-self
invariant_of-self c =
    let made = c.make_place.ensures in
    IsKeySpace-roomier c.self.inside
    (record c.self.inside { slots = c.make_place.new.slots; expiries = c.make_place.new.expiries })
    c.self.invariant refl refl made.entries made.expiries made.longer made.kept

pub invariant_of-self-in_err-make_room : goal.invariant_of-self-in_err-make_room
invariant_of-self-in_err-make_room c =
    let made = c.make_place.ensures in
    let before : Inside = record c.self.inside {
      slots = c.make_place.new.slots;
      expiries = c.make_place.new.expiries;
    } in
    IsKeySpace-KeepsSlot before (record before { slots = c.make_room.new.slots })
    (IsKeySpace-roomier c.self.inside before c.self.invariant refl refl made.entries
    made.expiries made.longer made.kept)
    refl refl refl c.make_room.ensures.shown c.make_room.ensures.kept
    c.make_room.ensures.spare

pub invariant_of-self-in_err-insert : goal.invariant_of-self-in_err-insert
invariant_of-self-in_err-insert c =
    let made = c.make_place.ensures in
    let before : Inside = record c.self.inside {
      slots = c.make_place.new.slots;
      expiries = c.make_place.new.expiries;
    } in
    IsKeySpace-KeepsSlot before
    (record before { slots = c.make_room.new.slots; spares = c.insert.new.self })
    (IsKeySpace-roomier c.self.inside before c.self.invariant refl refl made.entries
    made.expiries made.longer made.kept)
    refl refl c.in_err-insert.ensures.err c.make_room.ensures.shown
    c.make_room.ensures.kept c.make_room.ensures.spare

-- the fields after the call
abbrev after : goal.Joined-branch-5 → Inside
after c = record c.self.inside {
  slots = c.make_room.new.slots;
  expiries = c.make_place.new.expiries;
  spares = c.insert.new.self;
}

pub invariant_of-self-2 : goal.invariant_of-self-2
invariant_of-self-2 c =
    let made = c.make_place.ensures in
    let before : Inside = record c.self.inside {
      slots = c.make_place.new.slots;
      expiries = c.make_place.new.expiries;
    } in
    let roomier : Inside = record before { slots = c.make_room.new.slots } in
    let p = c.in_ok-spare.spare in
    let kept = IsKeySpace-KeepsSlot before roomier
    (IsKeySpace-roomier c.self.inside before c.self.invariant refl refl made.entries
    made.expiries made.longer made.kept)
    refl refl refl c.make_room.ensures.shown c.make_room.ensures.kept
    c.make_room.ensures.spare in
    let ready : IsReadySpare (get bytes_eq c.make_room.new.slots c.args.key.now) p = record {
      spare = c.in_ok-spare.ensures.value;
      room = c.in_ok-make_room.ensures.room;
    } in
    IsKeySpace-prepared roomier (after c) c.args.key.now p kept refl refl refl
    c.in_ok-insert.ensures.updates.0
    (omega (
      arith,
      c.in_ok-make_place.ensures.places,
      length_shown _ _ c.make_room.ensures.shown,
      c.in_ok-insert.ensures.len,
      one_at_most,
    ))
    (omega (
      arith,
      c.in_ok-make_place.ensures.room,
      c.make_room.ensures.spare,
      c.in_ok-insert.ensures.len,
      one_at_most,
    ))
    ready

pub returns-clause-prepared : goal.returns-clause-prepared
returns-clause-prepared c =
    let old = c.args.self.now in
    plan_at-set c.self.inside (after c) old c.args.key.now
    (Some c.in_ok-spare.spare) c.self.view_is c.in_ok-insert.ensures.updates.0
    ∙ ap (λ k. with_key {X = Plan} c.args.key.now
    (Some (record { kind = k; member = c.in_ok-spare.spare.member })) (plan_at old))
    c.in_ok-spare.ensures.kind
    ∙ ap (λ m. with_key {X = Plan} c.args.key.now (Some (record { kind = c.args.kind; member = m }))
    (plan_at old)) c.in_ok-spare.ensures.member

pub returns-clause-entries : goal.returns-clause-entries
returns-clause-entries c =
    entry_at-same c.self.inside (after c) c.args.self.now c.self.view_is
    (c.make_room.ensures.shown ∙ ap key_entries_of c.make_place.ensures.entries)
