use Rattle.std.proofs.Common.{ap}
use Rattle.std.specs.Prelude.{Ok}
use Rattle.lr_objects.specs.declared.reply.Reply.{Reply}
use Rattle.lr_replies.proofs.FrameLaws.{told_apart}
use Rattle.lr_replies.proofs.reply.read_reply.Goals as goal

pub returns-in-Some-clause-each : goal.returns-in-Some-clause-each
returns-in-Some-clause-each c reply of =
    ap (λ (r : Reply). Ok r)
    (told_apart c.args.function c.in-Some.reply reply c.args.frame.now c.in-Some.ensures.some of)
