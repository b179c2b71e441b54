use Rattle.std.proofs.Common.{ℕ, sym, ap, subst, ◌∙◌}
use Rattle.lr_keys.specs.KeySpace.{IsLive}
use Rattle.lr_keys.specs.Slots.{key_entry_of}
use Rattle.lr_keys.proofs.SlotLemmas.{entry_at-read}
use Rattle.lr_keys.proofs.key_space.KeySpace.slot.Goals as goal

pub returns-clause-entry : goal.returns-clause-entry
returns-clause-entry c = entry_at-read c.self.inside _ _ _ c.self.view_is c.get.ensures.value

pub returns-clause-live : goal.returns-clause-live
returns-clause-live c = λ s at.
    let live = (c.self.invariant.slots c.args.key.now s (sym c.get.ensures.value ∙ at)) in
    subst (λ (m : ℕ). IsLive m (key_entry_of s)) (ap (λ k. k.moment) c.self.view_is) live
