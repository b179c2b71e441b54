use Rattle.std.proofs.Common.{Some, arith}
use Rattle.lr_model.specs.Hold.{end_hold}
use Rattle.lr_model.specs.Mutex.{lock_post}
use Rattle.lr_mutex.proofs.RunLemmas.{step_run}
use Rattle.lr_mutex.proofs.functions.lock_force.Goals as goal

pub returns : goal.returns
returns c =
    let name = c.args.name.now in
    let post = Some (lock_post name) in
    let passed = c.advance.ensures in
    let ended = c.end.ensures in
    step_run c.args.keys.now _ (omega arith) (omega arith) name c.requires.name
    c.advance.new.self c.end.new.keys passed.moment passed.entries ended.moment c.end.result
    (λ moment. end_hold post) c.key.result c.key.ensures.text ended.others (ended.step post)
