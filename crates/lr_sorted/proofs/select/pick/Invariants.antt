use Rattle.std.proofs.Common.{◌≡◌, ◌<◌, ℕ, true, false, length, IfSome, IfNone}
use Rattle.lr_sorted.specs.Select.{is_between}
use Rattle.lr_sorted.proofs.select.pick.Given as goal

abbrev pub invariant-loop-place : goal.invariant-loop-place
invariant-loop-place l = record {
  within : IfSome l.found (λ p. p < length l.scores.entries);
  some : IfSome l.found (λ p. is_between l.scores.entries l.low l.high p ≡ true);
  none : IfNone l.found ((p : ℕ) → p < l.place → is_between l.scores.entries l.low l.high p ≡ false);
}
