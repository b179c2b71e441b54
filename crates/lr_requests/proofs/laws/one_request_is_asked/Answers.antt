use Rattle.lr_requests.proofs.AskedLaws.{request_is_one}
use Rattle.lr_requests.proofs.laws.one_request_is_asked.Goals as goal

pub returns : goal.returns
returns c = request_is_one
