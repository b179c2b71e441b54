use Rattle.lr_wakeups.proofs.ServerSteps.{facts_order}
use Rattle.lr_wakeups.proofs.server_laws.an_executed_order_keeps_the_facts.Goals as goal

pub returns : goal.returns
returns c = λ n peak client connection order facts.
    facts_order n peak client connection facts order
