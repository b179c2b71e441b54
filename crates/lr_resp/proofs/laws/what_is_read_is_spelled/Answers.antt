use Rattle.lr_resp.proofs.Readings.{whole_is_spelled}
use Rattle.lr_resp.proofs.laws.what_is_read_is_spelled.Goals as goal

pub returns : goal.returns
returns c = whole_is_spelled
