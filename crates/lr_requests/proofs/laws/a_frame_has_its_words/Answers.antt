use Rattle.lr_requests.proofs.FrameLaws.{words_are_one}
use Rattle.lr_requests.proofs.laws.a_frame_has_its_words.Goals as goal

pub returns : goal.returns
returns c = words_are_one
