use Rattle.lr_machine_wakeups.proofs.Schedules.{facts_throughout}
use Rattle.lr_machine_wakeups.proofs.laws.the_facts_hold_throughout.Goals as goal

pub returns : goal.returns
returns c = facts_throughout
