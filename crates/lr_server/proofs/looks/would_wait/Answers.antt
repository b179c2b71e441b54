use Rattle.std.proofs.Common.{sym, ap, ◌∙◌}
use Rattle.lr_names.specs.declared.kind.Kind.TheVariants.{Rw, Semaphore, Permits, Countdown}
use Rattle.lr_objects.specs.declared.kinds.Function.{Function}
use Rattle.lr_server.specs.Looks.{would_wait}
use Rattle.lr_server.proofs.looks.would_wait.Goals as goal

pub returns-in-ReadWrite : goal.returns-in-ReadWrite
returns-in-ReadWrite c = λ objects stand.
    c.would_wait.ensures objects (stand.kinds Rw)
    ∙ ap (λ (f : Function). would_wait f objects c.args.moment c.args.want.now c.args.owner.now)
    (sym c.in-ReadWrite.is)

pub returns-in-Semaphore : goal.returns-in-Semaphore
returns-in-Semaphore c = λ objects stand.
    let owner = c.args.owner.now in
    c.would_wait-in-Semaphore.ensures objects c.args.moment owner (stand.kinds Semaphore)
    ∙ ap (λ (f : Function). would_wait f objects c.args.moment c.args.want.now owner)
    (sym c.in-Semaphore.is)

pub returns-in-Permits : goal.returns-in-Permits
returns-in-Permits c = λ objects stand.
    let owner = c.args.owner.now in
    c.would_wait-in-Permits.ensures objects owner (stand.kinds Permits)
    ∙ ap (λ (f : Function). would_wait f objects c.args.moment c.args.want.now owner)
    (sym c.in-Permits.is)

pub returns-in-Countdown : goal.returns-in-Countdown
returns-in-Countdown c = λ objects stand.
    let owner = c.args.owner.now in
    c.would_wait-in-Countdown.ensures objects c.args.moment owner (stand.kinds Countdown)
    ∙ ap (λ (f : Function). would_wait f objects c.args.moment c.args.want.now owner)
    (sym c.in-Countdown.is)
