use Rattle.std.proofs.Common.{ap, ◌∙◌}
use Rattle.lr_waiting.specs.Client.{cut_client}
use Rattle.lr_clients.specs.Client.{ClientValue, client_of}
use Rattle.lr_clients.proofs.client.ClientState.cut.Goals as goal

pub returns : goal.returns
returns c =
    (λ i. record {
      session = c.cut.ensures.session i;
      replies = c.clear.ensures i;
      renewed = c.clear-2.ensures i;
    })
    ∙ ap (λ (value : ClientValue). cut_client (client_of value)) c.self.view_is
