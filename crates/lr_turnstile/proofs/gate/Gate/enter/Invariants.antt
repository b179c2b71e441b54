use Rattle.lr_turnstile.specs.Passes.{view, HasNoTurn, IsSamePass}
use Rattle.lr_turnstile.proofs.Looks.{HasLookedOn}
use Rattle.lr_turnstile.proofs.gate.Gate.enter.Given as goal

abbrev pub invariant-loop : goal.invariant-loop
invariant-loop g l = record {
  pass : IsSamePass l.initial.pass l.pass;
  free : HasNoTurn l.pass;
  looked : HasLookedOn (view l.initial.pass) (view l.pass);
}
