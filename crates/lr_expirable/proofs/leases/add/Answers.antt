use Rattle.lr_expirable.proofs.ChangeLemmas.{added}
use Rattle.lr_expirable.proofs.leases.add.Goals as goal

pub returns-clause-added : goal.returns-clause-added
returns-clause-added c = λ leases id at in_id text none room early prepared.
    let call = c.zadd-new.ensures in
    added c.args.keys.now c.zadd-new.new.self c.args.key.now leases at id in_id c.args.member.now
    text none room c.args.deadline early c.zadd-new.result call.answer (call.prepared prepared)
    call.written
