use Rattle.std.proofs.Common.{◌<◌, ◌^◌, IfOk, subst, sym}
use Rattle.lr_looks.proofs.CountLaws.{llen-small, zcard-small}
use Rattle.lr_looks.proofs.looks.answer.Goals as goal

pub count_answer-requires : goal.count_answer-requires
count_answer-requires c =
    subst (λ r. IfOk r (λ n. n < 2 ^ 63)) (sym c.llen.ensures)
    (llen-small c.args.keys.now c.args.key.now c.requires.live)

pub count_answer-requires-in-SortedCount : goal.count_answer-requires-in-SortedCount
count_answer-requires-in-SortedCount c =
    subst (λ r. IfOk r (λ n. n < 2 ^ 63)) (sym c.zcard.ensures)
    (zcard-small c.args.keys.now c.args.key.now c.requires.live)
