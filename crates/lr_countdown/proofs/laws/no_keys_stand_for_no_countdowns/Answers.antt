use Rattle.lr_countdown.proofs.StandsLaws.{no_keys_stand}
use Rattle.lr_countdown.proofs.laws.no_keys_stand_for_no_countdowns.Goals as goal

pub returns : goal.returns
returns c = no_keys_stand
