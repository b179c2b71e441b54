use Rattle.lr_machine_wakeups.proofs.Worlds.{kept-first}
use Rattle.lr_machine_wakeups.proofs.laws.the_facts_hold_before_the_first_event.Goals as goal

pub returns : goal.returns
returns c = kept-first
