use Rattle.lr_resp.proofs.Readings.{part_begins}
use Rattle.lr_resp.proofs.laws.a_part_begins_a_frame.Goals as goal

pub returns : goal.returns
returns c = part_begins
