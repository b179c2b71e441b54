use Rattle.lr_wakeups.proofs.Turns.{no_lost_turn}
use Rattle.lr_wakeups.proofs.stand_laws.no_turn_is_lost.Goals as goal

pub returns : goal.returns
returns c = no_lost_turn
