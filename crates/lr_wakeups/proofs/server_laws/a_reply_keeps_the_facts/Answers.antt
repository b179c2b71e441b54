use Rattle.lr_wakeups.proofs.Rows.{facts_answered}
use Rattle.lr_wakeups.proofs.server_laws.a_reply_keeps_the_facts.Goals as goal

pub returns : goal.returns
returns c = λ thread within n peak client connection asking reply facts.
    facts_answered n peak client connection facts thread within asking reply
