use Rattle.std.proofs.Common.{◌≡◌, ℕ, max, refl, sym, ap, ◌∙◌, arith}
use Rattle.lr_limits.specs.Limits.{watchdog_lease}
use Rattle.lr_objects.specs.declared.kinds.Function.TheVariants.{ReadWrite}
use Rattle.lr_objects.specs.declared.read_write.ReadWriteFunction.{ReadWriteFunction}
use Rattle.lr_objects.specs.declared.read_write.ReadWriteFunction.TheVariants.{Read, Write}
use Rattle.lr_server.specs.Looks.{would_wait}
use Rattle.lr_server.proofs.calls.read_write_locks.would_wait.Goals as goal

pub returns-in-Read : goal.returns-in-Read
returns-in-Read c = λ objects stand.
    let want = c.args.want.now in
    let owner = c.args.owner.now in
    let m : ℕ = max c.args.keys.now.moment c.args.moment in
    let same : m ≡ c.args.moment = omega (arith, c.requires) in
    c.would_wait.ensures objects watchdog_lease Read stand refl
    ∙ ap (λ n. would_wait (ReadWrite Read) objects n want owner) same
    ∙ ap (λ (f : ReadWriteFunction). would_wait (ReadWrite f) objects c.args.moment want owner)
    (sym c.in-Read.is)

pub returns-in-Write : goal.returns-in-Write
returns-in-Write c = λ objects stand.
    let want = c.args.want.now in
    let owner = c.args.owner.now in
    let m : ℕ = max c.args.keys.now.moment c.args.moment in
    let same : m ≡ c.args.moment = omega (arith, c.requires) in
    c.would_wait-in-Write.ensures objects watchdog_lease Write stand refl
    ∙ ap (λ n. would_wait (ReadWrite Write) objects n want owner) same
    ∙ ap (λ (f : ReadWriteFunction). would_wait (ReadWrite f) objects c.args.moment want owner)
    (sym c.in-Write.is)
