use Rattle.std.proofs.Common.{refl}
use Rattle.lr_names.specs.declared.kind.Kind.TheVariants.{Semaphore}
use Rattle.lr_semaphore.specs.Run.{semaphore_op}
use Rattle.lr_server.proofs.Runs.{is_run}
use Rattle.lr_server.proofs.calls.semaphores.run.Goals as goal

pub returns : goal.returns
returns c =
    is_run Semaphore c.args.keys.now c.run.new.keys c.args.moment (semaphore_op c.args.name.now c.args.call.now)
    c.run.result refl c.requires.name c.requires.in_time c.requires.early c.run.ensures.reply
    c.run.ensures.post c.run.ensures.stands c.run.ensures.frame c.run.ensures.moment
    c.run.ensures.err
