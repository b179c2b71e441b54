use Rattle.lr_turnstile.specs.Passes.{IsOther}
use Rattle.gate_race.proofs.by_gate.take_turns.Given as goal

abbrev pub invariant-loop : goal.invariant-loop
invariant-loop g l = IsOther l.gate l.pass
