use Rattle.std.proofs.Common.{Some}
use Rattle.lr_wakeups.proofs.Renewals.{facts_renewed}
use Rattle.lr_wakeups.proofs.renewal_laws.a_reply_to_a_renewal_keeps_the_facts.Goals as goal

pub returns : goal.returns
returns c = λ n present client connection key reply facts.
    facts_renewed n present client connection facts key (Some reply)
