use Rattle.lr_machine_laws.proofs.Lengths.{length-next}
use Rattle.lr_machine_laws.proofs.laws.histories_grow_by_events.Goals as goal

pub returns : goal.returns
returns c = length-next
