use Rattle.std.proofs.Common.{◌≡◌, ◌≤◌}
use Rattle.lr_drill.specs.Drill.{drilled_at}
use Rattle.lr_drill.specs.Drilling.{drilled_of}
use Rattle.lr_drill.proofs.drilled.run_drill.Given as goal

abbrev pub invariant-loop : goal.invariant-loop
invariant-loop l = record {
  drilled : drilled_of l.drill ≡ drilled_at l.number l.counter;
  count : l.drill.world.applied ≡ l.counter;
  few : l.drill.not_applied ≤ l.counter;
}
