use Rattle.lr_fair.proofs.StandsLaws.{fair_locks_stand_later}
use Rattle.lr_fair.proofs.laws.fair_locks_stand_later.Goals as goal

pub returns : goal.returns
returns c = fair_locks_stand_later
