use Rattle.lr_fair.proofs.ChangeLemmas.{kept}
use Rattle.lr_fair.proofs.places.keep.Goals as goal

pub returns-clause-kept : goal.returns-clause-kept
returns-clause-kept c = λ queue own stale at found late.
    let brief = c.brief.ensures in
    let scored = c.zadd-new.ensures in
    kept c.args.keys.now c.args.lock.now.queue c.args.lock.now.stales c.requires.apart queue at
    c.args.owner.now brief.owner c.brief.result brief.text own found stale c.args.kept late
    c.zadd-new.new.self c.zadd-new.result scored.answer scored.there scored.written
