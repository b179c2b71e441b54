use Rattle.lr_machine_renewals.proofs.Worlds.{watches-first}
use Rattle.lr_machine_renewals.proofs.laws.the_watches_hold_before_the_first_event.Goals as goal

pub returns : goal.returns
returns c = watches-first
