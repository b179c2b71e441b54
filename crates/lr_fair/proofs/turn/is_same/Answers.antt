use Rattle.std.proofs.Common.{◌∙◌}
use Rattle.lr_fair.proofs.QueueLaws.{texts-same}
use Rattle.lr_fair.proofs.turn.is_same.Goals as goal

pub returns : goal.returns
returns c =
    let one = c.brief.ensures in
    let other = c.brief-2.ensures in
    c.eq.ensures
    ∙ texts-same c.args.one.now c.args.other.now one.owner other.owner c.brief.result
    c.brief-2.result one.text other.text
