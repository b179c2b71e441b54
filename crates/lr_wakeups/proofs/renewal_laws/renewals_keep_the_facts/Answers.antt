use Rattle.lr_wakeups.proofs.Renewals.{facts_renewing}
use Rattle.lr_wakeups.proofs.renewal_laws.renewals_keep_the_facts.Goals as goal

pub returns : goal.returns
returns c = λ n present client connection watchdog renewed facts.
    facts_renewing n present client connection facts watchdog renewed
