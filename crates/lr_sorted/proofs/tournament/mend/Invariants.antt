use Rattle.std.proofs.Common.{◌≡◌, ◌+◌, ◌*◌, ◌<◌, ◌≤◌, length}
use Rattle.lr_sorted.specs.Tournament.{IsRightBut}
use Rattle.lr_sorted.proofs.tournament.mend.Given as goal

abbrev pub invariant-up : goal.invariant-up
invariant-up l = record {
  len : length l.nodes.items ≡ length l.fn.nodes.items;
  one_low : 1 ≤ l.one;
  one_high : l.one < 2 * length l.fn.nodes.items;
  other_low : 1 ≤ l.other;
  other_high : l.other < 2 * length l.fn.nodes.items;
  right : IsRightBut l.one l.other l.last l.scores.entries l.nodes.items;
}

abbrev pub decreases-up : goal.decreases-up
decreases-up l = l.one + l.other
