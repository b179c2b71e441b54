use Rattle.std.proofs.Common.{subst}
use Rattle.lr_waiting.specs.Watchdog.{IsNextDue}
use Rattle.lr_watchdog.specs.Value.{watchdog_of}
use Rattle.lr_session.specs.Value.{SessionValue}
use Rattle.lr_session.proofs.state.SessionState.next_due.Goals as goal

pub returns : goal.returns
returns c =
    subst (λ (v : SessionValue). IsNextDue (watchdog_of v.watches) c.next_due.result)
    c.self.view_is c.next_due.ensures
