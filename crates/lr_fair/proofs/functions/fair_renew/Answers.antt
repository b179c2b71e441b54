use Rattle.std.proofs.Common.{arith, rules}
use Rattle.lr_model.specs.Fair.{with_queue}
use Rattle.lr_model.specs.Hold.{renew_hold}
use Rattle.lr_fair.proofs.RunLemmas.{bad_lease_run, renew_run}
use Rattle.lr_fair.proofs.functions.fair_renew.Goals as goal

pub returns-then-not-is_lease : goal.returns-then-not-is_lease
returns-then-not-is_lease c =
    let lease = c.args.lease in
    let passed = c.advance.ensures in
    bad_lease_run c.args.keys.now _ (omega arith) (omega arith) c.args.name.now c.requires.name
    c.advance.new.self passed.moment passed.entries
    (λ m lock. with_queue lock.queue (renew_hold m c.args.owner.now lease lock.held)) lease
    (search rules)

pub returns : goal.returns
returns c =
    let passed = c.advance.ensures in
    let renewed = c.renew.ensures in
    renew_run c.args.keys.now _ (omega arith) (omega arith) c.args.name.now c.requires.name
    c.advance.new.self c.renew.new.keys passed.moment passed.entries renewed.moment c.renew.result
    c.args.owner.now c.args.lease (search rules) c.key.result c.key.ensures.text renewed.others
    renewed.step
