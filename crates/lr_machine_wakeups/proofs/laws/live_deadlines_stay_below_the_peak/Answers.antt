use Rattle.lr_machine_wakeups.proofs.Deadlines.{below-history}
use Rattle.lr_machine_wakeups.proofs.laws.live_deadlines_stay_below_the_peak.Goals as goal

pub returns : goal.returns
returns c = below-history
