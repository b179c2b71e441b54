use Rattle.lr_wakeups.proofs.ServerSteps.{facts_push}
use Rattle.lr_wakeups.proofs.server_laws.an_item_keeps_the_facts.Goals as goal

pub returns : goal.returns
returns c = λ n peak client connection push few facts.
    facts_push n peak client connection facts push few
