use Rattle.lr_machine_renewals.proofs.CallUntil.{keeps-holds, gives-deadlines, stay-apart}
use Rattle.lr_machine_renewals.proofs.laws.a_call_keeps_or_gives_deadlines.Goals as goal

pub returns : goal.returns
returns c = (keeps-holds, gives-deadlines, stay-apart)
