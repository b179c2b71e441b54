use Rattle.std.proofs.Common.{◌≡◌, ◌++◌, take}
use Rattle.std.specs.List.{flat_map}
use Rattle.lr_schedule.specs.Explanation.{byte_text}
use Rattle.lr_schedule.proofs.quotation.push_front.Given as goal

abbrev pub invariant-loop-byte : goal.invariant-loop-byte
invariant-loop-byte l = l.out ≡ l.initial.out ++ flat_map byte_text (take l.byte-index l.bytes)
