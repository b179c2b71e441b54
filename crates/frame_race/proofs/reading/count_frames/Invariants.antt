use Rattle.std.proofs.Common.{◌++◌, length}
use Rattle.lr_resp.specs.Turns.{IsOver}
use Rattle.frame_race.specs.Counted.{BeginsWith}
use Rattle.frame_race.proofs.reading.count_frames.Given as goal

abbrev pub invariant-loop-rest : goal.invariant-loop-rest
invariant-loop-rest l = record {
  begins : BeginsWith l.count l.stream (l.decoder.unread ++ l.rest);
  over : IsOver l.decoder;
}

abbrev pub decreases-loop-rest : goal.decreases-loop-rest
decreases-loop-rest l = length l.rest
