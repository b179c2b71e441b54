use Rattle.std.proofs.Common.{◌≡◌, ◌+◌, ◌≤◌, drop}
use Rattle.lr_lists.specs.Items.{times}
use Rattle.lr_lists.proofs.counts.count_item.Given as goal

abbrev pub invariant-loop-place : goal.invariant-loop-place
invariant-loop-place l = record {
  few : l.count ≤ l.place;
  times : l.count + times l.item (drop l.place l.items.items) ≡ times l.item l.items.items;
}
