use Rattle.lr_laws.proofs.KindTable.{no_conflict}
use Rattle.lr_laws.proofs.laws.tenures_never_conflict.Goals as goal

pub returns : goal.returns
returns c = no_conflict
