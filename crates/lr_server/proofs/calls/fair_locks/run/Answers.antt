use Rattle.std.proofs.Common.{refl}
use Rattle.lr_names.specs.declared.kind.Kind.TheVariants.{Fair}
use Rattle.lr_fair.specs.Run.{fair_op}
use Rattle.lr_server.proofs.Runs.{is_run_on_same}
use Rattle.lr_server.proofs.calls.fair_locks.run.Goals as goal

pub returns : goal.returns
returns c =
    is_run_on_same Fair c.args.keys.now c.run.new.keys c.args.moment (fair_op c.args.name.now c.args.call.now)
    c.run.result refl c.requires.name c.requires.in_time c.requires.early c.run.ensures.reply
    c.run.ensures.post c.run.ensures.stands c.run.ensures.frame c.run.ensures.moment
    c.moment-moment.ensures.live c.run.ensures.err
