use Rattle.std.proofs.Common.{◌≡◌, ◌<◌, ◌≤◌, ◌*◌, ◌/◌, drop, slice_set}
use Rattle.lr_expiry.specs.Tree.{IsTreeBut}
use Rattle.lr_expiry.proofs.expiries.write.Given as goal

abbrev pub invariant-up : goal.invariant-up
invariant-up l = record {
  low : 1 ≤ l.node;
  high : l.node < 2 * l.places;
  tree : IsTreeBut (l.node / 2) l.places l.tree;
  places : drop l.places l.tree ≡ slice_set (drop l.places l.fn.tree) l.fn.place l.fn.moment;
}

abbrev pub decreases-up : goal.decreases-up
decreases-up l = l.node
