use Rattle.std.proofs.Common.{refl}
use Rattle.lr_keys.specs.declared.key_space.KeySpace.TheInside.{Inside}
use Rattle.lr_keys.proofs.SlotLemmas.{entry_at-same, plan_at-empty}
use Rattle.lr_keys.proofs.key_space.KeySpace.settle.Goals as goal

-- the fields after the call
abbrev after : goal.After-clear → Inside
after c = record c.self.inside { spares = c.clear.new.self }

pub returns-clause-prepared : goal.returns-clause-prepared
returns-clause-prepared c = plan_at-empty (after c) c.clear.ensures.empty

pub returns-clause-entries : goal.returns-clause-entries
returns-clause-entries c = entry_at-same c.self.inside (after c) c.args.self.now c.self.view_is refl
