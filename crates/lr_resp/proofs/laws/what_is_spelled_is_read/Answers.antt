use Rattle.lr_resp.proofs.Readings.{spelled_is_whole}
use Rattle.lr_resp.proofs.laws.what_is_spelled_is_read.Goals as goal

pub returns : goal.returns
returns c = spelled_is_whole
