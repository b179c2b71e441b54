use Rattle.std.proofs.Common.{◌∙◌}
use Rattle.lr_fenced.proofs.PostLemmas.{post_of-reply}
use Rattle.lr_fenced.proofs.StandsLaws.{fenced_locks_stand_settled}
use Rattle.lr_fenced.proofs.call.run.Goals as goal

pub returns-clause-post : goal.returns-clause-post
returns-clause-post c = λ objects stand.
    c.post_after-post.ensures
    ∙ post_of-reply objects _ c.args.name.now c.args.call.now c.in_ok-reply.reply
    (c.in_ok-reply.ensures.run.answer objects stand)

pub returns-clause-stands : goal.returns-clause-stands
returns-clause-stands c = λ objects stand.
    fenced_locks_stand_settled c.answer-answered.new.keys c.settle.new.self _
    (c.in_ok-reply.ensures.run.stands objects stand) c.settle.ensures.moment
    c.settle.ensures.entries
