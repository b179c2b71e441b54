use Rattle.lr_looks.proofs.BulkLaws.{pair_bulks-more}
use Rattle.lr_looks.proofs.values.fields.Goals as goal

pub loop-pair-preserved : goal.loop-pair-preserved
loop-pair-preserved c =
    let more = pair_bulks-more c.deref-pair-items.result.now c.loop-pair.pair-index
    c.pair-item.result c.loop-pair-test.true in
    let item = c.pair-item.is in
    let pushed = c.in_ok-push_pair.ensures in
    let before = c.loop-pair.invariant in
    cc
