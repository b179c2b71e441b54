use Rattle.std.proofs.Common.{None}
use Rattle.lr_session.proofs.ThreadRequests.{changed_at, valid-put}
use Rattle.lr_session.proofs.waiters.Waiters.end.Goals as goal

pub invariant_of-self : goal.invariant_of-self
invariant_of-self c =
    valid-put c.args.thread None c.self.inside.by_thread.entries _
    (changed_at c.args.thread None _ _ c.swap_remove.ensures.updates.0)
    (λ waiter same. absurd (cc same)) c.self.invariant
