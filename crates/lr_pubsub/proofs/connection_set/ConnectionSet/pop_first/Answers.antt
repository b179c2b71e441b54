use Rattle.std.proofs.Common.{sym, ◌∙◌}
use Rattle.lr_pubsub.specs.ConnectionSet.{has_number}
use Rattle.lr_model.proofs.Numbers.{below_least}
use Rattle.lr_pubsub.proofs.connection_set.ConnectionSet.pop_first.Goals as goal

pub remove-requires : goal.remove-requires
remove-requires c =
    (below_least 256 (has_number c.args.self.now) c.in_ok-first.first
    (sym c.first.ensures.least ∙ c.in_ok-first.was)).below
