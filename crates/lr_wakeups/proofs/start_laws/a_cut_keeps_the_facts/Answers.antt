use Rattle.lr_wakeups.proofs.ServerSteps.{facts_cut}
use Rattle.lr_wakeups.proofs.start_laws.a_cut_keeps_the_facts.Goals as goal

pub returns : goal.returns
returns c = facts_cut
