use Rattle.lr_frames.proofs.Outcomes.{op_alone, op_none}
use Rattle.lr_frames.proofs.call.read_op.Goals as goal

pub returns-clause-alone : goal.returns-clause-alone
returns-clause-alone c =
    let read = c.read_named_op in
    op_alone read.result c.args.function.now c.args.words.now read.ensures.words read.ensures.said

pub returns-clause-none : goal.returns-clause-none
returns-clause-none c =
    let read = c.read_named_op in
    op_none read.result c.args.function.now c.args.words.now read.ensures.fault
