use Rattle.lr_laws.proofs.Permits.{never_more_than_set}
use Rattle.lr_laws.proofs.permit_laws.no_more_permits_are_live_than_were_set.Goals as goal

pub returns : goal.returns
returns c = never_more_than_set
