use Rattle.std.proofs.Common.{◌≡◌, Some, subst}
use Rattle.lr_session.specs.Value.{IsRequest}
use Rattle.lr_session.proofs.ThreadRequests.{changed_at, valid-put}
use Rattle.lr_session.proofs.waiters.Waiters.add.Goals as goal

pub invariant_of-self-2 : goal.invariant_of-self-2
invariant_of-self-2 c =
    valid-put c.args.thread (Some c.args.waiter) c.self.inside.by_thread.entries _
    (changed_at c.args.thread (Some c.args.waiter) _ _ c.in_ok-insert.ensures.updates.0)
    (λ waiter same. let e : c.args.waiter ≡ waiter = cc in
    subst (IsRequest c.args.thread) e c.requires) c.self.invariant
