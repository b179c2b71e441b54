use Rattle.lr_frames.proofs.FaultLaws.{no_call_fault}
use Rattle.lr_frames.proofs.laws.a_fault_is_no_call.Goals as goal

pub returns : goal.returns
returns c = no_call_fault
