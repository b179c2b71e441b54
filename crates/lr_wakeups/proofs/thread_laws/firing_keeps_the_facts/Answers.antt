use Rattle.lr_wakeups.proofs.Rows.{facts_fire}
use Rattle.lr_wakeups.proofs.thread_laws.firing_keeps_the_facts.Goals as goal

pub returns : goal.returns
returns c = λ now thread within n peak client after connection facts.
    facts_fire n peak client connection facts thread within now after
