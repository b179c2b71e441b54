use Rattle.lr_model.proofs.Tables.{one_table}
use Rattle.lr_pubsub.proofs.ConnectionSets.{get_or-zeros, has_number-zero}
use Rattle.lr_pubsub.proofs.connection_set.ConnectionSet.empty.Goals as goal

pub returns : goal.returns
returns c = one_table _ _ (λ k. has_number-zero _ k (get_or-zeros _))
