use Rattle.std.proofs.Common.{◌≡◌, None, take}
use Rattle.lr_sorted.specs.Members.{score_of}
use Rattle.lr_sorted.proofs.few.place_of.Given as goal

abbrev pub invariant-loop-place : goal.invariant-loop-place
invariant-loop-place l = score_of l.member (take l.place l.members) ≡ None
