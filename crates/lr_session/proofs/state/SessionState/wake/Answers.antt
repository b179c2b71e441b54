use Rattle.std.proofs.Common.{◌≡◌, Some, ap, sym, ◌∙◌}
use Rattle.lr_waiting.specs.Session.{Session, phase_in, of_waiter, wake_at}
use Rattle.lr_session.specs.declared.fault.SessionFault.TheVariants.{NotNow}
use Rattle.lr_session.specs.Value.{SessionValue, session_of, waiter_of}
use Rattle.lr_session.proofs.state.SessionState.wake.Goals as goal

pub returns-in-None-clause-fault : goal.returns-in-None-clause-fault
returns-in-None-clause-fault c =
    let session : Session = session_of c.args.self.now in
    let waiter : session.waiters c.args.thread ≡ Some c.in-Some.waiter =
    ap (λ (v : SessionValue). waiter_of v.waiters c.args.thread) (sym c.self.view_is)
    ∙ sym c.in-Some.ensures.value in
    record {
      none = ap (of_waiter (λ w. wake_at c.args.thread session w w.stage)) waiter
          ∙ ap (wake_at c.args.thread session c.in-Some.waiter) c.in-Some-asleep_at.ensures.stage
          ∙ c.in-None.ensures.none;
      found = c.not_now-in-None.ensures
          ∙ ap (λ (s : Session). NotNow (phase_in s c.args.thread)) c.in-None.ensures.same;
    }
