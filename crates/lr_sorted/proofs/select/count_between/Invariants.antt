use Rattle.std.proofs.Common.{◌≤◌}
use Rattle.lr_sorted.proofs.select.count_between.Given as goal

abbrev pub invariant-loop-place : goal.invariant-loop-place
invariant-loop-place l = l.count ≤ l.place
