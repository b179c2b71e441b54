use Rattle.lr_frames.proofs.Outcomes.{frame_spells}
use Rattle.lr_frames.proofs.frame.call_frame.Goals as goal

pub returns-clause-spelled : goal.returns-clause-spelled
returns-clause-spelled c = frame_spells c.written.result c.args.op.now c.check_op.ensures c.written.ensures
