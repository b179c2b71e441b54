use Rattle.std.proofs.Common.{◌≡◌, ◌≤◌, take}
use Rattle.std.specs.Prelude.{slice_get}
use Rattle.lr_sorted.specs.Select.{rank_of}
use Rattle.lr_sorted.proofs.select.rank.Given as goal

abbrev pub invariant-loop-other : goal.invariant-loop-other
invariant-loop-other l = record {
  few : l.count ≤ l.other;
  rank : l.count ≡ rank_of (slice_get l.scores.entries l.place) (take l.other l.scores.entries);
}
