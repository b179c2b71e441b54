use Rattle.lr_expirable.proofs.StandsLaws.{permits_stand_later}
use Rattle.lr_expirable.proofs.laws.permits_stand_later.Goals as goal

pub returns : goal.returns
returns c = permits_stand_later
