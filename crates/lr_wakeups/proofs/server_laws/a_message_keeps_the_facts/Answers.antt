use Rattle.lr_wakeups.proofs.ServerSteps.{facts_post}
use Rattle.lr_wakeups.proofs.server_laws.a_message_keeps_the_facts.Goals as goal

pub returns : goal.returns
returns c = λ n present then_ client connection post acts room goes queue nobody facts.
    facts_post n present client connection facts post then_ acts room goes queue nobody
