use Rattle.lr_frames.proofs.FaultLaws.{one_fault}
use Rattle.lr_frames.proofs.laws.a_fault_is_alone.Goals as goal

pub returns : goal.returns
returns c = one_fault
