use Rattle.lr_resp.proofs.Turns.{frames_come_in_order}
use Rattle.lr_resp.proofs.laws.frames_come_in_order.Goals as goal

pub returns : goal.returns
returns c = frames_come_in_order
