use Rattle.lr_wakeups.proofs.FairChannels.{one_waits}
use Rattle.lr_wakeups.proofs.stand_laws.one_thread_waits_for_its_turn.Goals as goal

pub returns : goal.returns
returns c = one_waits
