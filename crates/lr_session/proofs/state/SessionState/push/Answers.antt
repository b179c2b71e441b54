use Rattle.std.proofs.Common.{ap, sym, ◌∙◌}
use Rattle.lr_session.specs.declared.pushes.Pushed.TheVariants.{Message}
use Rattle.lr_session.specs.Pushed.{pushed_by, told_at}
use Rattle.lr_session.specs.Value.{session_of}
use Rattle.lr_session.proofs.state.SessionState.push.Goals as goal

pub returns-in-Message-clause-told : goal.returns-in-Message-clause-told
returns-in-Message-clause-told c =
    ap (Message c.in-Message.channel)
    (c.deliver.ensures.told ∙ ap (told_at c.in-Message.channel) c.deliver.ensures.session)
    ∙ ap (λ push. pushed_by push (session_of c.args.self.now)) (sym c.in-Message.is)
