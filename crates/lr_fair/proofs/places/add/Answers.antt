use Rattle.lr_fair.proofs.ChangeLemmas.{added}
use Rattle.lr_fair.proofs.places.add.Goals as goal

pub returns-clause-added : goal.returns-clause-added
returns-clause-added c = λ queue at none room ready.
    let brief = c.brief-text.ensures in
    let pushed = c.rpush-length.ensures in
    let scored = c.zadd-new.ensures in
    added c.args.keys.now c.args.lock.now.queue c.args.lock.now.stales c.requires.apart queue at
    c.args.owner.now brief.owner c.brief-text.result brief.text none room ready c.args.stale
    c.rpush-length.new.self c.zadd-new.new.self c.rpush-length.result pushed.answer pushed.prepared
    pushed.written pushed.plans c.zadd-new.result scored.answer scored.prepared scored.written
