use Rattle.std.proofs.Common.{◌+◌, ◌≤◌, length, take}
use Rattle.indexmap.specs.IndexMap.{spare}
use Rattle.lr_lists.specs.Counts.{IsCountOf}
use Rattle.lr_lists.proofs.counts.count_all.Given as goal

abbrev pub invariant-loop-place : goal.invariant-loop-place
invariant-loop-place l = record {
  counts : IsCountOf (take l.place l.items.items) l.counts;
  room : length l.items.items + l.more ≤ spare l.counts + l.place;
}
