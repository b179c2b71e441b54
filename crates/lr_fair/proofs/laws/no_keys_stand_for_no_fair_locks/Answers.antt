use Rattle.lr_fair.proofs.StandsLaws.{no_keys_stand}
use Rattle.lr_fair.proofs.laws.no_keys_stand_for_no_fair_locks.Goals as goal

pub returns : goal.returns
returns c = no_keys_stand
