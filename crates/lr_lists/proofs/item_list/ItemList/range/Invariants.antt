use Rattle.std.proofs.Common.{◌≡◌, ◌≤◌, max, drop, take}
use Rattle.lr_lists.proofs.item_list.ItemList.range.Given as goal

abbrev pub invariant-loop-place : goal.invariant-loop-place
invariant-loop-place l = record {
  items : l.items ≡ drop l.first (take l.place l.self-inside.items.items);
  bound : l.place ≤ max l.first l.end;
}
