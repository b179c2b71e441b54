use Rattle.std.proofs.Common.{◌≡◌, ◌+◌, ◌≤◌, false, refl, sym, ap, ◌∙◌, arith, Option, None, Some}
use Rattle.std.specs.Option.{is_some}
use Rattle.std.specs.Str.{bytes_eq}
use Rattle.indexmap.specs.IndexMap.{get}
use Rattle.lr_keys.specs.declared.key_space.KeySpace.TheInside.{Inside}
use Rattle.lr_limits.specs.Limits.{last_moment}
use Rattle.lr_keys.specs.declared.slot.Slot.{Slot}
use Rattle.lr_keys.specs.KeySpace.{entry_at, entry_with_expiry}
use Rattle.lr_keys.specs.Slots.{IsKeySpace, IsLiveSlot, key_entries_of, keys_inside}
use Rattle.lr_keys.specs.Table.{with_key}
use Rattle.lr_keys.proofs.TableLaws.{with_key-absent}
use Rattle.lr_keys.proofs.SlotLemmas.{ForSome-some, entry_at-changed, entry_at-read, entry_at-same, is_some-entry_at, plan_at-same, IsKeySpace-roomier, IsKeySpace-set, IsRoomFor-some, IsLiveSlot-expiring}
use Rattle.lr_keys.proofs.key_space.KeySpace.pexpire.Goals as goal

-- the fields after the call
abbrev after : goal.After-set_expiry → Inside
after c = record c.self.inside {
  slots = c.set_expiry.new.slots;
  expiries = c.set_expiry.new.expiries;
}

-- a slot with the expiry
abbrev expiring : goal.After-set_expiry → Slot → Slot
expiring c u = record u { expiry = Some (c.self.inside.moment + c.args.millis) }

-- where the key isn't there, the slots stay
unfound : (c : goal.After-set_expiry) → None ≡ get bytes_eq c.self.inside.slots c.args.key.now
    → c.set_expiry.result ≡ false
unfound c none = c.set_expiry.ensures.found ∙ sym (ap is_some none)

pub invariant_of-self : goal.invariant_of-self
invariant_of-self c = by (get bytes_eq c.self.inside.slots c.args.key.now) refl
  where
    by : (o : Option Slot) → o ≡ get bytes_eq c.self.inside.slots c.args.key.now
        → IsKeySpace (after c)
    by None none =
        let set = c.set_expiry.ensures in
        IsKeySpace-roomier c.self.inside (after c) c.self.invariant refl refl
        (set.absent (unfound c none)) set.expiries (omega (arith, set.places)) set.room
    by (Some u) found =
        let set = c.set_expiry.ensures in
        let inside = c.self.inside in
        let moment : inside.moment ≤ last_moment = c.self.invariant.moment in
        IsKeySpace-set inside (after c) c.args.key.now (Some (expiring c u)) c.self.invariant refl
        refl (set.slots u (sym found)) set.expiries (omega (arith, set.len)) set.places set.room
        (ForSome-some (IsLiveSlot inside.moment) (expiring c u)
        (IsLiveSlot-expiring inside.moment (inside.moment + c.args.millis) u
        (c.self.invariant.slots c.args.key.now u (sym found)) (omega (arith, c.requires.some))
        (omega (arith, c.requires.few))))
        (IsRoomFor-some _ u (expiring c u) found (λ room. room))

pub returns-clause-found : goal.returns-clause-found
returns-clause-found c =
    c.set_expiry.ensures.found ∙ is_some-entry_at _ _ _
    (entry_at-read c.self.inside c.args.self.now c.args.key.now _ c.self.view_is refl)

-- what the keys show at the key, by whether a slot is there
changed : (c : goal.After-set_expiry) (o : Option Slot)
    → o ≡ get bytes_eq c.self.inside.slots c.args.key.now
    → entry_at (keys_inside (after c)) ≡ with_key c.args.key.now (entry_with_expiry
    (c.self.inside.moment + c.args.millis) (entry_at c.args.self.now c.args.key.now))
    (entry_at c.args.self.now)
changed c None none =
    let old = c.args.self.now in
    let key = c.args.key.now in
    let absent = entry_at-read c.self.inside old key None c.self.view_is none in
    entry_at-same c.self.inside (after c) old c.self.view_is
    (ap key_entries_of (c.set_expiry.ensures.absent (unfound c none)))
    ∙ sym (with_key-absent key (entry_at old) absent)
    ∙ sym (ap (λ o. with_key key (entry_with_expiry (c.self.inside.moment + c.args.millis) o)
    (entry_at old)) absent)
changed c (Some u) found =
    entry_at-changed c.self.inside (after c) c.args.self.now c.args.key.now (Some u)
    (Some (expiring c u)) (entry_with_expiry (c.self.inside.moment + c.args.millis))
    c.self.view_is found (c.set_expiry.ensures.slots u (sym found)) refl

pub returns-clause-expires : goal.returns-clause-expires
returns-clause-expires c =
    let old = c.args.self.now in
    let key = c.args.key.now in
    changed c (get bytes_eq c.self.inside.slots key) refl
    ∙ ap (λ m. with_key key (entry_with_expiry (m + c.args.millis) (entry_at old key))
    (entry_at old)) (ap (λ k. k.moment) c.self.view_is)

pub returns-clause-prepared : goal.returns-clause-prepared
returns-clause-prepared c = plan_at-same c.self.inside (after c) c.args.self.now c.self.view_is refl
