use Rattle.lr_machine_renewals.proofs.Worlds.{renewed-in_time}
use Rattle.lr_machine_renewals.proofs.laws.watched_holds_are_renewed_in_time.Goals as goal

pub returns : goal.returns
returns c = renewed-in_time
