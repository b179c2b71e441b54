use Rattle.std.proofs.Common.{◌≡◌, ◌+◌}
use Rattle.lr_model.specs.Board.{numbers_below}
use Rattle.lr_waiting.specs.Session.{has_timer}
use Rattle.lr_session.specs.Value.{waiter_of}
use Rattle.lr_session.proofs.state.SessionState.tick.Given as goal

abbrev pub invariant-loop-looked : goal.invariant-loop-looked
invariant-loop-looked l = l.due.items
    ≡ numbers_below (l.looked + 1) (λ t. has_timer l.moment (waiter_of l.self-inside.waiters t))
