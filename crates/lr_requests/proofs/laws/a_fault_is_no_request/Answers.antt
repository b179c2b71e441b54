use Rattle.lr_requests.proofs.FaultLaws.{fault_is_no_request}
use Rattle.lr_requests.proofs.laws.a_fault_is_no_request.Goals as goal

pub returns : goal.returns
returns c = fault_is_no_request
