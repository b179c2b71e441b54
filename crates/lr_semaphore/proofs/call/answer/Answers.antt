use Rattle.std.proofs.Common.{ℕ, List, Option, IsTrue, ap, sym, subst, ◌∙◌}
use Rattle.lr_keys.specs.KeySpace.{Plan}
use Rattle.lr_semaphore.specs.Run.{makes_key}
use Rattle.lr_semaphore.proofs.RunLemmas.{semaphore_run}
use Rattle.lr_semaphore.proofs.call.answer.Goals as goal

pub returns-clause-run : goal.returns-clause-run
returns-clause-run c =
    let call = c.args.call.now in
    let key = c.key-key.result in
    let roomy = c.in_ok-take_memory.ensures in
    let passed = c.advance.ensures in
    let stepped = c.step.ensures in
    semaphore_run c.args.keys.now c.take_memory.new.keys c.advance.new.self c.step.new.keys
    c.args.moment roomy.stays passed.moment passed.entries stepped.moment c.args.name.now
    c.requires.name call key c.key-key.ensures.text stepped.others c.step.result (λ semaphore was at.
    stepped.step semaphore at (λ makes.
    ap (λ (f : List ℕ → Option Plan). f key) passed.prepared
    ∙ roomy.room (subst (λ e. IsTrue (makes_key call e)) (sym was) makes)))
