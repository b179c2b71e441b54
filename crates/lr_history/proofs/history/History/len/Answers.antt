use Rattle.std.proofs.Common.{arith}
use Rattle.lr_history.proofs.SegmentLemmas.{length-entries_of}
use Rattle.lr_history.proofs.history.History.len.Goals as goal

pub returns-clause-value : goal.returns-clause-value
returns-clause-value c =
    let full = c.self.inside.full in
    let stored = length-entries_of full.items c.self.inside.last c.self.invariant.filled in
    rw (← c.self.view_is) (omega (arith, stored, full.ok.0))
