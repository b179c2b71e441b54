use Rattle.lr_wakeups.proofs.ServerSteps.{facts_at_start}
use Rattle.lr_wakeups.proofs.start_laws.the_facts_at_start.Goals as goal

pub returns : goal.returns
returns c = facts_at_start
