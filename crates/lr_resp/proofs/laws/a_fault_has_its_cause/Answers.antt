use Rattle.lr_resp.proofs.Readings.{cause_is_first}
use Rattle.lr_resp.proofs.laws.a_fault_has_its_cause.Goals as goal

pub returns : goal.returns
returns c = cause_is_first
