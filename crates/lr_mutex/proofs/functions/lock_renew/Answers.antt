use Rattle.std.proofs.Common.{arith, rules}
use Rattle.lr_model.specs.Hold.{renew_hold}
use Rattle.lr_mutex.proofs.RunLemmas.{lease_run, bad_lease_run}
use Rattle.lr_mutex.proofs.functions.lock_renew.Goals as goal

pub returns-then-not-is_lease : goal.returns-then-not-is_lease
returns-then-not-is_lease c =
    let lease = c.args.lease in
    let passed = c.advance.ensures in
    bad_lease_run c.args.keys.now _ (omega arith) (omega arith) c.args.name.now c.requires.name
    c.advance.new.self passed.moment passed.entries
    (λ moment. renew_hold moment c.args.owner.now lease) lease (search rules)

pub returns : goal.returns
returns c =
    let lease = c.args.lease in
    let passed = c.advance.ensures in
    let renewed = c.renew.ensures in
    lease_run c.args.keys.now _ (omega arith) (omega arith) c.args.name.now c.requires.name
    c.advance.new.self c.renew.new.keys passed.moment passed.entries renewed.moment c.renew.result
    (λ moment. renew_hold moment c.args.owner.now lease) lease (search rules)
    c.key.result c.key.ensures.text renewed.others renewed.step
