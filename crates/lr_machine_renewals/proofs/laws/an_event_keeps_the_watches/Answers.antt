use Rattle.lr_machine_renewals.proofs.Worlds.{watches-next}
use Rattle.lr_machine_renewals.proofs.laws.an_event_keeps_the_watches.Goals as goal

pub returns : goal.returns
returns c = watches-next
