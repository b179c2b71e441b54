use Rattle.lr_wakeups.proofs.ServerSteps.{facts_going_on}
use Rattle.lr_wakeups.proofs.server_laws.going_on_keeps_the_facts.Goals as goal

pub returns : goal.returns
returns c = λ n present then_ client connection acts goes queue nobody facts.
    facts_going_on n present client connection facts then_ acts goes queue nobody
