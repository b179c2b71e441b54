use Rattle.lr_resp.proofs.Readings.{begins_part}
use Rattle.lr_resp.proofs.laws.a_front_is_part.Goals as goal

pub returns : goal.returns
returns c = begins_part
