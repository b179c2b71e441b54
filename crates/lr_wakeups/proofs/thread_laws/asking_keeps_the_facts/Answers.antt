use Rattle.lr_wakeups.proofs.Rows.{facts_ask}
use Rattle.lr_wakeups.proofs.thread_laws.asking_keeps_the_facts.Goals as goal

pub returns : goal.returns
returns c = λ moment thread within n peak client after connection facts.
    facts_ask n peak client connection facts thread within moment after
