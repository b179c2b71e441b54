use Rattle.lr_resp.proofs.Readings.{broken_is_first}
use Rattle.lr_resp.proofs.laws.a_fault_is_first.Goals as goal

pub returns : goal.returns
returns c = broken_is_first
