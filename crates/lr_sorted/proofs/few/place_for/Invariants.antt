use Rattle.std.proofs.Common.{◌≡◌, ◌++◌, drop, take}
use Rattle.lr_sorted.specs.Members.{inserted}
use Rattle.lr_sorted.proofs.few.place_for.Given as goal

abbrev pub invariant-loop-place : goal.invariant-loop-place
invariant-loop-place l = inserted l.new l.members ≡ take l.place l.members ++ inserted l.new (drop l.place l.members)
