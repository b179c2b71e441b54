use Rattle.std.proofs.Common.{◌≡◌, ◌≤◌, ◌<◌, ◌-◌, length, IfSome}
use Rattle.lr_sorted.specs.Select.{least_behind, first_past}
use Rattle.lr_sorted.proofs.select.nth.Given as goal

abbrev pub invariant-halve : goal.invariant-halve
invariant-halve l = record {
  from : l.least ≤ l.at;
  to : l.at < l.past;
  least : least_behind l.scores.entries l.low ≡ l.least;
  past : first_past l.scores.entries l.high ≡ l.past;
  low : IfSome l.low (λ p. p < length l.scores.entries);
}

abbrev pub decreases-halve : goal.decreases-halve
decreases-halve l = l.past - l.least
