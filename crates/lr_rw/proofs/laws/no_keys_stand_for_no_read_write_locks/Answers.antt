use Rattle.lr_rw.proofs.StandsLaws.{no_keys_stand}
use Rattle.lr_rw.proofs.laws.no_keys_stand_for_no_read_write_locks.Goals as goal

pub returns : goal.returns
returns c = no_keys_stand
