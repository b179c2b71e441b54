use Rattle.lr_machine_wakeups.proofs.Schedules.{none_lost_throughout}
use Rattle.lr_machine_wakeups.proofs.laws.no_wakeup_is_lost_in_any_schedule.Goals as goal

pub returns : goal.returns
returns c = none_lost_throughout
