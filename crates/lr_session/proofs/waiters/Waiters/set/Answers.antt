use Rattle.std.proofs.Common.{◌≡◌, Some, subst, rules}
use Rattle.lr_session.specs.Value.{IsRequest}
use Rattle.lr_session.proofs.ThreadRequests.{changed_at, valid-put}
use Rattle.lr_session.proofs.waiters.Waiters.set.Goals as goal

pub invariant_of-self : goal.invariant_of-self
invariant_of-self c =
    valid-put c.args.thread (Some c.args.waiter) c.self.inside.by_thread.entries _
    (changed_at c.args.thread (Some c.args.waiter) _ _
    ((c.get_mut.follows.holds c.args.waiter).3 (search rules)).0)
    (λ waiter same. let e : c.args.waiter ≡ waiter = cc in
    subst (IsRequest c.args.thread) e c.requires.request) c.self.invariant
