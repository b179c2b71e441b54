use Rattle.std.proofs.Common.{refl}
use Rattle.lr_names.specs.declared.kind.Kind.TheVariants.{Permits}
use Rattle.lr_expirable.specs.Run.{permit_op}
use Rattle.lr_server.proofs.Runs.{is_run}
use Rattle.lr_server.proofs.calls.permits.run.Goals as goal

pub returns : goal.returns
returns c =
    is_run Permits c.args.keys.now c.run.new.keys c.args.moment (permit_op c.args.name.now c.args.call.now)
    c.run.result refl c.requires.name c.requires.in_time c.requires.early c.run.ensures.reply
    c.run.ensures.post c.run.ensures.stands c.run.ensures.frame c.run.ensures.moment
    c.run.ensures.err
