use Rattle.lr_replies.proofs.FrameLaws.{told_apart}
use Rattle.lr_replies.proofs.laws.replies_are_told_apart.Goals as goal

pub returns : goal.returns
returns c = told_apart
