use Rattle.std.proofs.Common.{◌∙◌}
use Rattle.lr_world.proofs.OrderLaws.{item-made}
use Rattle.lr_world.proofs.items.take_item.Goals as goal

pub returns-in-Ok-clause-entry : goal.returns-in-Ok-clause-entry
returns-in-Ok-clause-entry c =
    c.in-Ok.ensures.entry
    ∙ item-made c.args.server.now c.args.moment c.args.client c.client_caller.result
    c.subscription_connection-connection.result c.requires.first c.requires.in_time
    c.requires.early c.client_caller.ensures c.subscription_connection-connection.ensures
