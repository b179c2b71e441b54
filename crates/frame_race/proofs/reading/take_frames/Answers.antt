use Rattle.std.proofs.Common.{◌+◌, arith, sym}
use Rattle.frame_race.specs.Counted.{BeginsWith}
use Rattle.frame_race.proofs.Counts.{counts_at_most, and_more, one_came}
use Rattle.frame_race.proofs.reading.take_frames.Goals as goal

one_more : (c : goal.Then-is_frame)
    → BeginsWith 1 c.loop-count.decoder.unread c.next.new.self.unread
one_more c =
    one_came c.in_ok-next.field-0 c.loop-count.decoder c.next.new.self c.in_ok-next.ensures.ok
    (sym c.if-is_frame.ensures)

all_of_them : (c : goal.Then-is_frame)
    → BeginsWith (c.loop-count.count + 1) c.args.decoder.now.unread c.next.new.self.unread
all_of_them c =
    and_more c.loop-count.count 1 c.args.decoder.now.unread c.loop-count.decoder.unread
    c.next.new.self.unread c.loop-count.invariant (one_more c)

pub overflow_add-count : goal.overflow_add-count
overflow_add-count c =
    omega (
      arith,
      c.requires,
      counts_at_most (c.loop-count.count + 1) c.args.decoder.now.unread c.next.new.self.unread
          (all_of_them c),
    )

pub loop-count-smaller : goal.loop-count-smaller
loop-count-smaller c =
    omega (
      arith,
      counts_at_most 1 c.loop-count.decoder.unread c.next.new.self.unread (one_more c),
    )

pub loop-count-preserved : goal.loop-count-preserved
loop-count-preserved c = all_of_them c
