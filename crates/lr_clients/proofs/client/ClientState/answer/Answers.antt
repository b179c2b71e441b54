use Rattle.std.proofs.Common.{Some, ap, ◌∙◌}
use Rattle.lr_waiting.specs.Client.{with_reply}
use Rattle.lr_session.specs.Value.{session_of}
use Rattle.lr_clients.specs.Client.{ClientValue, client_of, renewed_of}
use Rattle.lr_clients.proofs.client.ClientState.answer.Goals as goal

pub returns : goal.returns
returns c =
    (λ i. record {
      session = session_of c.self.inside.session;
      replies = c.set.ensures i;
      renewed = renewed_of c.self.inside.renewed;
    })
    ∙ ap (λ (value : ClientValue). with_reply c.args.thread (Some c.args.reply) (client_of value))
    c.self.view_is
