use Rattle.std.proofs.Common.{ℕ, Option, ap, ◌∙◌}
use Rattle.lr_waiting.specs.declared.waiter.Waiter.{Waiter}
use Rattle.lr_session.specs.Told.{op_at, op_with}
use Rattle.lr_session.specs.Value.{waiter_of}
use Rattle.lr_session.proofs.ThreadRequests.{put-same}
use Rattle.lr_session.proofs.state.SessionState.send.Goals as goal

pub returns-clause-op : goal.returns-clause-op
returns-clause-op c =
    ap op_with (ap (λ (table : ℕ → Option Waiter). table c.args.thread) c.set.ensures
    ∙ put-same (waiter_of c.self.inside.waiters) c.args.thread _)
    ∙ ap (λ (waiter : Waiter). op_at waiter.stage) c.at_stage.ensures
