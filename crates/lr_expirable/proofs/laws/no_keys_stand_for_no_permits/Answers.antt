use Rattle.lr_expirable.proofs.StandsLaws.{no_keys_stand}
use Rattle.lr_expirable.proofs.laws.no_keys_stand_for_no_permits.Goals as goal

pub returns : goal.returns
returns c = no_keys_stand
