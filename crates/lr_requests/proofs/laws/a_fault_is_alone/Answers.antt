use Rattle.lr_requests.proofs.FaultLaws.{fault_is_one}
use Rattle.lr_requests.proofs.laws.a_fault_is_alone.Goals as goal

pub returns : goal.returns
returns c = fault_is_one
