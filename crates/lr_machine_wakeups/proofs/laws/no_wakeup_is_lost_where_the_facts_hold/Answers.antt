use Rattle.lr_machine_wakeups.proofs.Schedules.{none_lost}
use Rattle.lr_machine_wakeups.proofs.laws.no_wakeup_is_lost_where_the_facts_hold.Goals as goal

pub returns : goal.returns
returns c = none_lost
