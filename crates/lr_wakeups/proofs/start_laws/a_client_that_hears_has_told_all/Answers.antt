use Rattle.lr_wakeups.proofs.ServerSteps.{facts_heard}
use Rattle.lr_wakeups.proofs.start_laws.a_client_that_hears_has_told_all.Goals as goal

pub returns : goal.returns
returns c = λ n peak client connection channel facts heard.
    facts_heard n peak client connection facts channel heard
