use Rattle.std.proofs.Common.{Option, None, ap, sym, ◌∙◌}
use Rattle.std.specs.Option.{option_map}
use Rattle.lr_objects.specs.declared.reply.Reply.{Reply}
use Rattle.lr_waiting.specs.Client.{Client, take_reply, take_with, with_reply}
use Rattle.lr_waiting.specs.Session.{Session}
use Rattle.lr_session.specs.Value.{session_of}
use Rattle.lr_clients.specs.Client.{ClientValue, client_of, renewed_of}
use Rattle.lr_clients.specs.Rows.{row_or}
use Rattle.lr_clients.proofs.client.ClientState.take.Goals as goal

pub returns-in-Ok-clause-next : goal.returns-in-Ok-clause-next
returns-in-Ok-clause-next c =
    let old : Client =
    client_of (record {
      session = c.self.inside.session;
      replies = c.self.inside.replies;
      renewed = c.self.inside.renewed;
    }) in
    (λ i. record {
      session = session_of c.take.new.self;
      replies = c.set.ensures i;
      renewed = renewed_of c.self.inside.renewed;
    })
    ∙ ap (λ (row : Option Session). row_or old
    (option_map (λ s. record (with_reply c.args.thread None old) { session = s }) row))
    c.in-Ok.ensures.ok
    ∙ ap (λ (reply : Option Reply). row_or old (take_with c.args.thread reply old))
    (sym c.in-Some.is ∙ c.get.ensures)
    ∙ ap (λ (value : ClientValue). row_or (client_of value)
    (take_reply c.args.thread (client_of value))) c.self.view_is
