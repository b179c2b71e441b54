use Rattle.std.proofs.Common.{◌≡◌, replicate}
use Rattle.std.specs.List.{concat}
use Rattle.frame_race.proofs.frames.copies.Given as goal

abbrev pub invariant-loop : goal.invariant-loop
invariant-loop l = l.bytes.items ≡ concat (replicate l.counter l.frame)
