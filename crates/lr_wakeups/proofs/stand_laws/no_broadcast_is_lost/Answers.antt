use Rattle.lr_wakeups.proofs.Stands.{no_lost_broadcast}
use Rattle.lr_wakeups.proofs.stand_laws.no_broadcast_is_lost.Goals as goal

pub returns : goal.returns
returns c = no_lost_broadcast
