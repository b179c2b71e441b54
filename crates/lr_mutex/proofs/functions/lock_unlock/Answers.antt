use Rattle.std.proofs.Common.{Some, arith, rules}
use Rattle.lr_model.specs.Hold.{give_back_hold}
use Rattle.lr_model.specs.Mutex.{lock_post}
use Rattle.lr_mutex.proofs.RunLemmas.{lease_run, bad_lease_run}
use Rattle.lr_mutex.proofs.functions.lock_unlock.Goals as goal

pub returns-then-not-is_lease : goal.returns-then-not-is_lease
returns-then-not-is_lease c =
    let rest = c.args.rest in
    let post = Some (lock_post c.args.name.now) in
    let passed = c.advance.ensures in
    bad_lease_run c.args.keys.now _ (omega arith) (omega arith) c.args.name.now c.requires.name
    c.advance.new.self passed.moment passed.entries
    (λ moment. give_back_hold post moment c.args.owner.now rest) rest (search rules)

pub returns : goal.returns
returns c =
    let rest = c.args.rest in
    let post = Some (lock_post c.args.name.now) in
    let passed = c.advance.ensures in
    let given = c.give_back.ensures in
    lease_run c.args.keys.now _ (omega arith) (omega arith) c.args.name.now c.requires.name
    c.advance.new.self c.give_back.new.keys passed.moment passed.entries given.moment c.give_back.result
    (λ moment. give_back_hold post moment c.args.owner.now rest) rest (search rules)
    c.key.result c.key.ensures.text given.others (given.step post)
