use Rattle.std.proofs.Common.{◌≡◌, ◌++◌, take, codes}
use Rattle.std.specs.List.{flat_map}
use Rattle.lr_machine.specs.Transcript.{standing_text}
use Rattle.lr_schedule.proofs.tail.append_further.Given as goal

abbrev pub invariant-loop-standing : goal.invariant-loop-standing
invariant-loop-standing l =
    l.out
    ≡ l.initial.out
    ++ flat_map (λ standing. codes "; " ++ standing_text standing)
    (take l.standing-index l.standings)
