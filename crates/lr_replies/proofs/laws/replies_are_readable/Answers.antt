use Rattle.lr_replies.proofs.FrameLaws.{are_readable}
use Rattle.lr_replies.proofs.laws.replies_are_readable.Goals as goal

pub returns : goal.returns
returns c = are_readable
