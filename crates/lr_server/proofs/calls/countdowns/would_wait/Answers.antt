use Rattle.std.proofs.Common.{sym, ap, ◌∙◌}
use Rattle.lr_objects.specs.declared.countdown.CountdownFunction.{CountdownFunction}
use Rattle.lr_objects.specs.declared.kinds.Function.TheVariants.{Countdown}
use Rattle.lr_server.specs.Looks.{would_wait}
use Rattle.lr_server.proofs.calls.countdowns.would_wait.Goals as goal

pub returns-in-Count : goal.returns-in-Count
returns-in-Count c = λ objects moment owner stand.
    c.would_wait.ensures objects moment stand
    ∙ ap (λ (f : CountdownFunction). would_wait (Countdown f) objects moment c.args.want.now owner)
    (sym c.in-Count.is)
