use Rattle.std.proofs.Common.{◌<◌, sym, subst, arith}
use Rattle.lr_keys.specs.KeySpace.{entry_at}
use Rattle.lr_keys.proofs.TableLaws.{bytes_eq-other}
use Rattle.lr_limits.specs.Limits.{token_limit}
use Rattle.lr_model.specs.Fenced.{take_fenced}
use Rattle.lr_fenced.specs.Step.{IsLockStep}
use Rattle.lr_fenced.proofs.TakeLemmas.{one_more, take_next}
use Rattle.lr_fenced.proofs.take.take_next.Goals as goal

pub returns-clause-step : goal.returns-clause-step
returns-clause-step c = λ room lock at.
    let hash = c.args.hash.now in
    let counter = c.args.counter.now in
    let before = c.args.keys.now in
    let added = c.add.new.keys in
    let owner = c.args.owner.now in
    let lease = c.args.lease in
    let last = c.last_token-last in
    let is = last.ensures.token lock.token at.token in
    let more : lock.token < token_limit =
    omega (arith, is, c.if-last-eq-LAST_TOKEN.false, last.ensures.within) in
    let apart = c.requires.apart in
    subst (λ r. IsLockStep c.take.new.keys hash counter r
    (take_fenced before.moment owner lease lock.token lock.held)) (sym c.with_token.ensures)
    (take_next before added c.take.new.keys hash counter owner lease c.add.ensures.moment
    (c.add.ensures.others hash (bytes_eq-other counter hash (λ same. apart (sym same))))
    (c.take.ensures.others counter (bytes_eq-other hash counter apart)) c.take.result
    c.take.ensures.step last.result lock at c.requires.free is more
    (one_more (entry_at before counter) (entry_at added counter) lock.token more at.token room
    c.add.ensures.added))
