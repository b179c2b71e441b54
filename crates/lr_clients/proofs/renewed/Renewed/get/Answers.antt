use Rattle.std.proofs.Common.{ap, ◌∙◌}
use Rattle.lr_clients.specs.Client.{RenewedValue, renewed_of}
use Rattle.lr_clients.proofs.RenewalReplies.{lookup-same}
use Rattle.lr_clients.proofs.renewed.Renewed.get.Goals as goal

pub returns : goal.returns
returns c =
    c.copied.ensures ∙ c.get.ensures.value
    ∙ lookup-same c.self.inside.replies.entries c.args.key.now
    ∙ ap (λ (value : RenewedValue). renewed_of value c.args.key.now) c.self.view_is
