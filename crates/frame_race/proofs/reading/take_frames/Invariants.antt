use Rattle.std.proofs.Common.{length}
use Rattle.frame_race.specs.Counted.{BeginsWith}
use Rattle.frame_race.proofs.reading.take_frames.Given as goal

abbrev pub invariant-loop-count : goal.invariant-loop-count
invariant-loop-count l = BeginsWith l.count l.fn.decoder.unread l.decoder.unread

abbrev pub decreases-loop-count : goal.decreases-loop-count
decreases-loop-count l = length l.decoder.unread
