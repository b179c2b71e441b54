use Rattle.lr_wakeups.proofs.Renewals.{facts_take_renewed}
use Rattle.lr_wakeups.proofs.renewal_laws.taking_a_renewal_keeps_the_facts.Goals as goal

pub returns : goal.returns
returns c = λ key n present client after connection facts.
    facts_take_renewed n present client connection facts key after
