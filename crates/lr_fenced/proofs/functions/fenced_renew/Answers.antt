use Rattle.std.proofs.Common.{arith, rules}
use Rattle.lr_model.specs.Fenced.{with_token}
use Rattle.lr_model.specs.Hold.{renew_hold}
use Rattle.lr_fenced.proofs.RunLemmas.{bad_lease_run, hold_run}
use Rattle.lr_fenced.proofs.TokenLemmas.{no_token-renew_hold}
use Rattle.lr_fenced.proofs.functions.fenced_renew.Goals as goal

pub returns-then-not-is_lease : goal.returns-then-not-is_lease
returns-then-not-is_lease c =
    let lease = c.args.lease in
    let passed = c.advance.ensures in
    bad_lease_run c.args.keys.now _ (omega arith) (omega arith) c.args.name.now c.requires.name
    c.advance.new.self passed.moment passed.entries
    (λ moment lock. with_token lock.token (renew_hold moment c.args.owner.now lease lock.held))
    lease (search rules)

pub returns : goal.returns
returns c =
    let lease = c.args.lease in
    let owner = c.args.owner.now in
    let passed = c.advance.ensures in
    let renewed = c.renew.ensures in
    hold_run c.args.keys.now _ (omega arith) (omega arith) c.args.name.now c.requires.name
    c.advance.new.self c.renew.new.keys passed.moment passed.entries renewed.moment c.renew.result
    (λ moment. renew_hold moment owner lease) (λ moment. no_token-renew_hold moment owner lease)
    lease (search rules) c.key.result c.key.ensures.text renewed.others renewed.step
