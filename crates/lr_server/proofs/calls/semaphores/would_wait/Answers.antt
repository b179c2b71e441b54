use Rattle.std.proofs.Common.{sym, ap, ◌∙◌}
use Rattle.lr_objects.specs.Reply.{blocks}
use Rattle.lr_objects.specs.declared.kinds.Function.TheVariants.{Semaphore}
use Rattle.lr_objects.specs.declared.semaphore.SemaphoreCall.TheVariants as calls
use Rattle.lr_objects.specs.declared.semaphore.SemaphoreFunction.{SemaphoreFunction}
use Rattle.lr_objects.specs.declared.semaphore.SemaphoreFunction.TheVariants as functions
use Rattle.lr_model.specs.Answer.{reply_of}
use Rattle.lr_semaphore.specs.Run.{semaphore_op}
use Rattle.lr_server.specs.Looks.{would_wait}
use Rattle.lr_server.proofs.calls.semaphores.would_wait.Goals as goal

pub returns-in-Try : goal.returns-in-Try
returns-in-Try c = λ objects moment owner stand.
    let want = c.args.want.now in
    c.would_wait.ensures objects moment stand
    ∙ ap (λ n. blocks (reply_of objects moment (semaphore_op want.name (calls.Try n)))
    (Semaphore functions.Try)) c.new.ensures
    ∙ ap (λ (f : SemaphoreFunction). would_wait (Semaphore f) objects moment want owner)
    (sym c.in-Try.is)
