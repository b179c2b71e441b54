use Rattle.std.proofs.Common.{subst}
use Rattle.lr_keys.specs.KeySpace.{AreLive}
use Rattle.lr_keys.proofs.SlotLemmas.{AreLive-keys_inside}
use Rattle.lr_keys.proofs.key_space.KeySpace.moment.Goals as goal

pub returns-clause-live : goal.returns-clause-live
returns-clause-live c = subst AreLive c.self.view_is
    (AreLive-keys_inside c.self.inside c.self.invariant)
