use Rattle.std.proofs.Common.{◌++◌, ◌∙◌, ap, List, ℕ}
use Rattle.frame_race.proofs.Counts.{one_copy_more}
use Rattle.frame_race.proofs.frames.copies.Goals as goal

pub loop-preserved : goal.loop-preserved
loop-preserved c =
    c.in_ok-extend_from_slice.ensures.ok
    ∙ ap (λ (l : List ℕ). l ++ c.args.frame.now) c.loop.invariant
    ∙ one_copy_more c.loop.counter c.args.frame.now
