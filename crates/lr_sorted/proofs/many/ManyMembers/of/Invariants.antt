use Rattle.std.proofs.Common.{◌≡◌, ◌≤◌, ◌+◌, take}
use Rattle.lr_sorted.proofs.many.ManyMembers.of.Given as goal

abbrev pub invariant-loop-place : goal.invariant-loop-place
invariant-loop-place l = record {
  members : l.many.members ≡ take l.place l.members;
  room : 16 ≤ l.many.room + l.place;
}
