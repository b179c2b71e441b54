use Rattle.std.proofs.Common.{◌≡◌, ◌<◌, ◌≤◌, ◌*◌, ◌-◌, slice_index}
use Rattle.lr_expiry.proofs.expiries.Expiries.first.Given as goal

abbrev pub invariant-down : goal.invariant-down
invariant-down l = record {
  low : 1 ≤ l.node;
  high : l.node < 2 * l.self-inside.places;
  least : slice_index l.self-inside.tree.items l.node ≡ slice_index l.self-inside.tree.items 1;
}

abbrev pub decreases-down : goal.decreases-down
decreases-down l = 2 * l.self-inside.places - l.node
