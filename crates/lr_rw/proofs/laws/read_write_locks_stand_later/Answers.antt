use Rattle.lr_rw.proofs.StandsLaws.{read_write_locks_stand_later}
use Rattle.lr_rw.proofs.laws.read_write_locks_stand_later.Goals as goal

pub returns : goal.returns
returns c = read_write_locks_stand_later
