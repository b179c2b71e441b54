use Rattle.std.proofs.Common.{Some, ap, ◌∙◌, subst, ◌<◌, sym}
use Rattle.lr_model.specs.Table.{put}
use Rattle.lr_waiting.specs.Watchdog.{same_watch}
use Rattle.lr_clients.specs.Client.{RenewedValue, renewed_of}
use Rattle.lr_clients.specs.contracts.renewed.Renewed.{the_view}
use Rattle.lr_clients.proofs.RenewalReplies.{reply-set, where-ok}
use Rattle.lr_clients.proofs.renewed.Renewed.put.Goals as goal

pub returns : goal.returns
returns c =
    let room = subst (λ (value : RenewedValue). 0 < value.room) (sym c.self.view_is) c.requires in
    let updates = where-ok c.insert.result (c.insert.ensures.succeeds room)
    c.insert.ensures.updates in
    reply-set c.args.key.now (Some c.args.reply) (the_view c.self.inside)
    (the_view (record { replies = c.insert.new.self })) updates.0
    ∙ ap (λ (value : RenewedValue). put same_watch (renewed_of value) c.args.key.now
    (Some c.args.reply)) c.self.view_is
