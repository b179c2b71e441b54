use Rattle.lr_wakeups.proofs.Rows.{facts_take}
use Rattle.lr_wakeups.proofs.thread_laws.taking_keeps_the_facts.Goals as goal

pub returns : goal.returns
returns c = λ thread within n peak client after connection few facts.
    facts_take n peak client connection facts thread within after few
