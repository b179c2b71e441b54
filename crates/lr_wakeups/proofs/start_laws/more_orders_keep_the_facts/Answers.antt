use Rattle.lr_wakeups.proofs.Rows.{facts_later}
use Rattle.lr_wakeups.proofs.start_laws.more_orders_keep_the_facts.Goals as goal

pub returns : goal.returns
returns c = facts_later
