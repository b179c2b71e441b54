use Rattle.lr_wakeups.proofs.Rows.{facts_wake}
use Rattle.lr_wakeups.proofs.thread_laws.waking_keeps_the_facts.Goals as goal

pub returns : goal.returns
returns c = λ thread within n peak client after connection facts.
    facts_wake n peak client connection facts thread within after
