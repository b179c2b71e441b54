use Rattle.std.proofs.Common.{None, ap, ◌∙◌}
use Rattle.lr_model.specs.Table.{put}
use Rattle.lr_waiting.specs.Watchdog.{same_watch}
use Rattle.lr_clients.specs.Client.{RenewedValue, renewed_of}
use Rattle.lr_clients.specs.contracts.renewed.Renewed.{the_view}
use Rattle.lr_clients.proofs.RenewalReplies.{reply-set}
use Rattle.lr_clients.proofs.renewed.Renewed.remove.Goals as goal

pub returns : goal.returns
returns c =
    reply-set c.args.key.now None (the_view c.self.inside)
    (the_view (record { replies = c.swap_remove.new.self })) c.swap_remove.ensures.updates.0
    ∙ ap (λ (value : RenewedValue). put same_watch (renewed_of value) c.args.key.now None)
    c.self.view_is
