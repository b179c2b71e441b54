use Rattle.std.proofs.Common.{◌∙◌}
use Rattle.lr_expirable.proofs.CallLemmas.{replies, posts, stands, others_live}
use Rattle.lr_expirable.proofs.call.run.Goals as goal

pub returns-clause-reply : goal.returns-clause-reply
returns-clause-reply c = λ objects stand.
    replies c.args.keys.now c.answer.new.keys c.settle.new.self c.of-permits.result.number
    c.of-permits.result.leases c.args.name.now c.as_slice-text.ensures.named _ c.in_ok-answer.answer
    c.args.call.now c.in_ok-answer.ensures.run c.of-permits.ensures.number
    c.of-permits.ensures.leases c.settle.ensures.entries objects stand

pub returns-clause-post : goal.returns-clause-post
returns-clause-post c = λ objects stand.
    posts c.args.keys.now c.answer.new.keys c.settle.new.self c.of-permits.result.number
    c.of-permits.result.leases c.args.name.now c.as_slice-text.ensures.named _ c.in_ok-answer.answer
    c.args.call.now c.in_ok-answer.ensures.run c.of-permits.ensures.number
    c.of-permits.ensures.leases c.settle.ensures.entries objects stand

pub returns-clause-stands : goal.returns-clause-stands
returns-clause-stands c = λ objects stand.
    stands c.args.keys.now c.answer.new.keys c.settle.new.self c.of-permits.result.number
    c.of-permits.result.leases c.args.name.now c.as_slice-text.ensures.named _ c.in_ok-answer.answer
    c.args.call.now c.in_ok-answer.ensures.run c.of-permits.ensures.number
    c.of-permits.ensures.leases c.settle.ensures.entries objects stand

pub returns-clause-frame : goal.returns-clause-frame
returns-clause-frame c =
    others_live c.args.keys.now c.answer.new.keys c.settle.new.self c.of-permits.result.number
    c.of-permits.result.leases c.args.name.now c.as_slice-text.ensures.named _ c.in_ok-answer.answer
    c.args.call.now c.in_ok-answer.ensures.run c.of-permits.ensures.number
    c.of-permits.ensures.leases c.settle.ensures.entries c.settle.ensures.moment

pub returns-clause-moment : goal.returns-clause-moment
returns-clause-moment c = c.settle.ensures.moment ∙ c.in_ok-answer.ensures.run.now
