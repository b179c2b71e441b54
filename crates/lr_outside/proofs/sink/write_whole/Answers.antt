use Rattle.std.proofs.Common.{◌∙◌}
use Rattle.lr_outside.proofs.Writes.{IsPartlyWritten-more}
use Rattle.lr_outside.proofs.sink.write_whole.Goals as goal

pub loop-rest-preserved : goal.loop-rest-preserved
loop-rest-preserved g c =
    let took = c.in-Took.ensures in
    let at = c.loop-rest in record {
      part = IsPartlyWritten-more _ _ _ _ at.rest.now c.in-Took.count at.invariant.part took.bytes.2;
      counted = took.counts ∙ at.invariant.counted;
    }
