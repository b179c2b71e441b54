use Rattle.lr_wakeups.proofs.Rows.{facts_begin}
use Rattle.lr_wakeups.proofs.thread_laws.beginning_keeps_the_facts.Goals as goal

pub returns : goal.returns
returns c = λ mode want thread within n peak client after connection facts.
    facts_begin n peak client connection facts thread within mode want after
