use Rattle.std.proofs.Common.{◌≡◌, ◌≤◌, ◌+◌, vec_len, vec_capacity}
use Rattle.lr_session.specs.Value.{session_of}
use Rattle.lr_session.proofs.Joined.{AreTold}
use Rattle.lr_session.proofs.state.SessionState.wake_joined.Given as goal

abbrev pub invariant-loop-told : goal.invariant-loop-told
invariant-loop-told l = record {
  so : AreTold l.channel (session_of l.initial.self) (l.told + 1) (session_of l.self)
      l.asks.items;
  few : vec_len l.asks ≤ l.told;
  capacity : vec_capacity l.asks ≡ vec_capacity l.initial.asks;
}
