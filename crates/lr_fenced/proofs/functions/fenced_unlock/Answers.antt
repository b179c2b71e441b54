use Rattle.std.proofs.Common.{Some, arith, rules}
use Rattle.lr_model.specs.Fenced.{fenced_post, with_token}
use Rattle.lr_model.specs.Hold.{give_back_hold}
use Rattle.lr_fenced.proofs.RunLemmas.{bad_lease_run, hold_run}
use Rattle.lr_fenced.proofs.TokenLemmas.{no_token-give_back_hold}
use Rattle.lr_fenced.proofs.functions.fenced_unlock.Goals as goal

pub returns-then-not-is_lease : goal.returns-then-not-is_lease
returns-then-not-is_lease c =
    let rest = c.args.rest in
    let post = Some (fenced_post c.args.name.now) in
    let passed = c.advance.ensures in
    bad_lease_run c.args.keys.now _ (omega arith) (omega arith) c.args.name.now c.requires.name
    c.advance.new.self passed.moment passed.entries
    (λ moment lock. with_token lock.token
    (give_back_hold post moment c.args.owner.now rest lock.held)) rest (search rules)

pub returns : goal.returns
returns c =
    let rest = c.args.rest in
    let owner = c.args.owner.now in
    let post = Some (fenced_post c.args.name.now) in
    let passed = c.advance.ensures in
    let given = c.give_back.ensures in
    hold_run c.args.keys.now _ (omega arith) (omega arith) c.args.name.now c.requires.name
    c.advance.new.self c.give_back.new.keys passed.moment passed.entries given.moment
    c.give_back.result (λ moment. give_back_hold post moment owner rest)
    (λ moment. no_token-give_back_hold post moment owner rest) rest (search rules)
    c.key.result c.key.ensures.text given.others (given.step post)
