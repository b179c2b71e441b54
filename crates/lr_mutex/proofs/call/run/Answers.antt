use Rattle.std.proofs.Common.{◌∙◌}
use Rattle.lr_names.specs.declared.part.Part.TheVariants.{Lock}
use Rattle.lr_hold.proofs.HoldsLaws.{holds_stand_settled}
use Rattle.lr_mutex.proofs.RunLemmas.{post_of-reply}
use Rattle.lr_mutex.proofs.call.run.Goals as goal

pub returns-clause-post : goal.returns-clause-post
returns-clause-post c = λ objects stand.
    c.post_after-post.ensures
    ∙ post_of-reply objects _ c.args.name.now c.args.call.now c.in_ok-reply.reply
    (c.in_ok-reply.ensures.run.answer objects stand)

pub returns-clause-stands : goal.returns-clause-stands
returns-clause-stands c = λ objects stand.
    holds_stand_settled Lock c.answer.new.keys _ (c.in_ok-reply.ensures.run.stands objects stand)
    c.settle.new.self c.settle.ensures.moment c.settle.ensures.entries
