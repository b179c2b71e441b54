use Rattle.lr_machine_renewals.proofs.Schedules.{renewed_throughout}
use Rattle.lr_machine_renewals.proofs.laws.renewals_are_due_in_time.Goals as goal

pub returns : goal.returns
returns c = renewed_throughout
