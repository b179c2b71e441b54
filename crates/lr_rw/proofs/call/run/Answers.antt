use Rattle.std.proofs.Common.{◌∙◌}
use Rattle.lr_rw.proofs.CallLemmas.{replies, posts, stands, others_live}
use Rattle.lr_rw.proofs.call.run.Goals as goal

pub returns-clause-reply : goal.returns-clause-reply
returns-clause-reply c = λ objects stand.
    replies c.args.keys.now c.answer-answered.new.keys c.settle.new.self c.of-lock.result.counts
    c.of-lock.result.deadlines c.args.name.now c.as_slice-text.ensures.named _ c.in_ok-reply.reply
    c.args.call.now (c.in_ok-reply.ensures.run c.args.name.now) c.of-lock.ensures.counts
    c.of-lock.ensures.deadlines c.settle.ensures.entries objects stand

pub returns-clause-post : goal.returns-clause-post
returns-clause-post c = λ objects stand.
    posts c.args.keys.now c.answer-answered.new.keys c.settle.new.self c.of-lock.result.counts
    c.of-lock.result.deadlines c.args.name.now c.as_slice-text.ensures.named _ c.in_ok-reply.reply
    c.args.call.now (c.in_ok-reply.ensures.run c.args.name.now) c.of-lock.ensures.counts
    c.of-lock.ensures.deadlines c.settle.ensures.entries objects stand
    c.post_after-post.result c.post_after-post.ensures

pub returns-clause-stands : goal.returns-clause-stands
returns-clause-stands c = λ objects stand.
    stands c.args.keys.now c.answer-answered.new.keys c.settle.new.self c.of-lock.result.counts
    c.of-lock.result.deadlines c.args.name.now c.as_slice-text.ensures.named _ c.in_ok-reply.reply
    c.args.call.now (c.in_ok-reply.ensures.run c.args.name.now) c.of-lock.ensures.counts
    c.of-lock.ensures.deadlines c.settle.ensures.entries objects stand

pub returns-clause-frame : goal.returns-clause-frame
returns-clause-frame c =
    others_live c.args.keys.now c.answer-answered.new.keys c.settle.new.self c.of-lock.result.counts
    c.of-lock.result.deadlines c.args.name.now c.as_slice-text.ensures.named _ c.in_ok-reply.reply
    c.args.call.now (c.in_ok-reply.ensures.run c.args.name.now) c.of-lock.ensures.counts
    c.of-lock.ensures.deadlines c.settle.ensures.entries
    c.settle.ensures.moment

pub returns-clause-moment : goal.returns-clause-moment
returns-clause-moment c =
    c.settle.ensures.moment ∙ (c.in_ok-reply.ensures.run c.args.name.now).now
