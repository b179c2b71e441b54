use Rattle.lr_machine_laws.proofs.Schedules.{goes_well_throughout}
use Rattle.lr_machine_laws.proofs.laws.every_schedule_goes_well_throughout.Goals as goal

pub returns : goal.returns
returns c = goes_well_throughout
