use Rattle.lr_wakeups.proofs.Renewals.{facts_renew}
use Rattle.lr_wakeups.proofs.renewal_laws.asking_for_a_renewal_keeps_the_facts.Goals as goal

pub returns : goal.returns
returns c = λ key moment n present client after connection facts.
    facts_renew n present client connection facts key moment after
