use Rattle.lr_resp.proofs.One.{read_is_one, written_is_one}
use Rattle.lr_resp.proofs.laws.one_frame_is_spelled.Goals as goal

pub returns-clause-read : goal.returns-clause-read
returns-clause-read c = read_is_one

pub returns-clause-written : goal.returns-clause-written
returns-clause-written c = written_is_one
