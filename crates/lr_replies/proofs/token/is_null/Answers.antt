use Rattle.std.proofs.Common.{true≢false, sym}
use Rattle.lr_resp.proofs.Alone.{null_alone}
use Rattle.lr_replies.proofs.token.is_null.Goals as goal

pub returns-in_default : goal.returns-in_default
returns-in_default c = (
  λ t. absurd (true≢false (sym t)),
  λ is. absurd (c.in_default.not-Null (null_alone c.args.frame.now is)),
)
