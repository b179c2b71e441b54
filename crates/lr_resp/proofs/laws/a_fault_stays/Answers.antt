use Rattle.lr_resp.proofs.Readings.{whole_stays, broken_stays}
use Rattle.lr_resp.proofs.laws.a_fault_stays.Goals as goal

pub returns-clause-whole : goal.returns-clause-whole
returns-clause-whole c = whole_stays

pub returns-clause-broken : goal.returns-clause-broken
returns-clause-broken c = broken_stays
