use Rattle.lr_frames.proofs.Outcomes.{call_alone, call_none}
use Rattle.lr_frames.proofs.call.read_call.Goals as goal

pub returns-clause-alone : goal.returns-clause-alone
returns-clause-alone c =
    call_alone c.read_keyed.result c.args.words.now c.read_keyed.ensures.words c.read_keyed.ensures.said

pub returns-clause-none : goal.returns-clause-none
returns-clause-none c = call_none c.read_keyed.result c.args.words.now c.read_keyed.ensures.fault
