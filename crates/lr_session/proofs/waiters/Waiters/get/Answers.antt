use Rattle.std.proofs.Common.{◌∙◌}
use Rattle.lr_session.proofs.ThreadRequests.{found-fits}
use Rattle.lr_session.proofs.waiters.Waiters.get.Goals as goal

pub returns-clause-request : goal.returns-clause-request
returns-clause-request c =
    found-fits c.self.inside.by_thread.entries c.self.invariant c.args.thread c.copied.result
    (c.copied.ensures ∙ c.get.ensures.value)
