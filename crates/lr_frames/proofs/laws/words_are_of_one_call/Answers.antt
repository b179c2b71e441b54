use Rattle.lr_frames.proofs.OpLaws.{one_fcall}
use Rattle.lr_frames.proofs.laws.words_are_of_one_call.Goals as goal

pub returns : goal.returns
returns c = one_fcall
