use Rattle.lr_countdown.proofs.StandsLaws.{countdowns_stand_later}
use Rattle.lr_countdown.proofs.laws.countdowns_stand_later.Goals as goal

pub returns : goal.returns
returns c = countdowns_stand_later
