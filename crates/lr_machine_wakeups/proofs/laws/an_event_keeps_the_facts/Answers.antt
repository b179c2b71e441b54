use Rattle.lr_machine_wakeups.proofs.Worlds.{kept-next}
use Rattle.lr_machine_wakeups.proofs.laws.an_event_keeps_the_facts.Goals as goal

pub returns : goal.returns
returns c = kept-next
