use Rattle.std.proofs.Common.{◌∙◌}
use Rattle.lr_model.proofs.SameChannel.{derived_same}
use Rattle.lr_session.proofs.joining.is_same_channel.Goals as goal

pub returns : goal.returns
returns c = c.eq.ensures ∙ derived_same _ _
