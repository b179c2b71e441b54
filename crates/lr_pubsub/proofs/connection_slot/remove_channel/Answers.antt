use Rattle.std.proofs.Common.{not, rules}
use Rattle.std.proofs.lemmas.Fn.{filter_same}
use Rattle.lr_model.specs.Board.{same_channel}
use Rattle.lr_pubsub.proofs.connection_slot.remove_channel.Goals as goal

pub returns-clause-items : goal.returns-clause-items
returns-clause-items c =
    filter_same _ (λ other. not (same_channel c.args.channel.now other)) _
    (λ x b q h. search rules) _ _ c.retain.ensures.filtered
