use Rattle.lr_mutex.proofs.StandsLaws.{no_keys_stand}
use Rattle.lr_mutex.proofs.laws.no_keys_stand_for_no_mutexes.Goals as goal

pub returns : goal.returns
returns c = no_keys_stand
