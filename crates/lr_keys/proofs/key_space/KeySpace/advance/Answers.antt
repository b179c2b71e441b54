use Rattle.std.proofs.Common.{◌≤◌, max, refl, ap, ◌∙◌, arith}
use Rattle.lr_limits.specs.Limits.{last_moment}
use Rattle.lr_keys.specs.declared.key_space.KeySpace.TheInside.{Inside}
use Rattle.lr_keys.specs.KeySpace.{entry_at, live_entries}
use Rattle.lr_keys.proofs.SlotLemmas.{AreLive-keys_inside, plan_at-same}
use Rattle.lr_keys.proofs.LiveLemmas.{IsKeySpace-live, entry_at-live}
use Rattle.lr_keys.proofs.key_space.KeySpace.advance.Goals as goal

-- the fields after the call
abbrev after : goal.After-remove_gone → Inside
after c = record c.self.inside {
  moment = c.max-moment.result;
  slots = c.remove_gone.new.slots;
  expiries = c.remove_gone.new.expiries;
}

pub invariant_of-self : goal.invariant_of-self
invariant_of-self c =
    let gone = c.remove_gone.ensures in
    let within : c.self.inside.moment ≤ last_moment = c.self.invariant.moment in
    IsKeySpace-live c.self.inside (after c) c.self.invariant
    (omega arith) refl gone.slots gone.expiries gone.fewer gone.places gone.room

pub returns-clause-entries : goal.returns-clause-entries
returns-clause-entries c =
    let old = c.args.self.now in
    entry_at-live c.self.inside (after c) old c.max-moment.result c.self.view_is
    c.remove_gone.ensures.slots
    ∙ ap (λ m. live_entries m (entry_at old))
    (c.max-moment.ensures ∙ ap (λ k. max k.moment c.args.moment) c.self.view_is)

pub returns-clause-prepared : goal.returns-clause-prepared
returns-clause-prepared c = plan_at-same c.self.inside (after c) c.args.self.now c.self.view_is refl

pub returns-clause-live : goal.returns-clause-live
returns-clause-live c = AreLive-keys_inside (after c) (invariant_of-self c)
