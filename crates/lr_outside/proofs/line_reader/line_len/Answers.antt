use Rattle.lr_outside.proofs.Fronts.{no_line_end-joined, no_line_end-all}
use Rattle.lr_outside.proofs.line_reader.line_len.Goals as goal

pub returns-in-Some-clause-before : goal.returns-in-Some-clause-before
returns-in-Some-clause-before c = no_line_end-joined c.args.bytes.now c.args.searched c.in-Some.at c.requires.none c.in-Some.ensures.before

pub returns-in-None-clause-before : goal.returns-in-None-clause-before
returns-in-None-clause-before c = no_line_end-all c.args.bytes.now c.args.searched c.requires.none c.in-None.ensures.none
