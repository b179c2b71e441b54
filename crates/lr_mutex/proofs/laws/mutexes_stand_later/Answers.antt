use Rattle.lr_mutex.proofs.StandsLaws.{mutexes_stand_later}
use Rattle.lr_mutex.proofs.laws.mutexes_stand_later.Goals as goal

pub returns : goal.returns
returns c = mutexes_stand_later
