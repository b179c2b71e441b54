use Rattle.std.proofs.Common.{sym, ◌∙◌}
use Rattle.lr_server.specs.Server.{state_of}
use Rattle.lr_server.proofs.Allowed.{is_allowed}
use Rattle.lr_server.proofs.state.ServerState.act.Goals as goal

pub perform-requires-clause-allowed : goal.perform-requires-clause-allowed
perform-requires-clause-allowed c =
    is_allowed (state_of c.args.self.now) c.args.conn c.args.act c.requires.open
    c.requires.asked (sym c.is_only_subscribed.ensures ∙ c.if-is_only_subscribed.false)
    (sym c.is_stopped.ensures ∙ c.if-is_stopped.false)
