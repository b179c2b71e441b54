use Rattle.std.proofs.Common.{◌≡◌, ◌≤◌, length}
use Rattle.lr_sorted.specs.Tournament.{IsRightFrom}
use Rattle.lr_sorted.proofs.tournament.tournament.Given as goal

abbrev pub invariant-down : goal.invariant-down
invariant-down l = record {
  len : length l.nodes.items ≡ l.places;
  low : 1 ≤ l.node;
  high : l.node ≤ l.places;
  right : IsRightFrom l.node l.last l.scores.entries l.nodes.items;
}

abbrev pub decreases-down : goal.decreases-down
decreases-down l = l.node
