use Rattle.std.proofs.Common.{Option, if◌then◌else◌, ap, sym, ◌∙◌}
use Rattle.lr_waiting.specs.declared.waiter.Waiter.{Waiter}
use Rattle.lr_waiting.specs.declared.watch.WatchKey.{WatchKey}
use Rattle.lr_waiting.specs.Session.{Session, key_in, refused, watched_by, without_waiter}
use Rattle.lr_session.specs.Value.{session_of}
use Rattle.lr_session.proofs.WatchedRequests.{ended-watched}
use Rattle.lr_session.proofs.state.SessionState.answered.Goals as goal

pub returns-clause-ok : goal.returns-clause-ok
returns-clause-ok c =
    let session : Session = session_of c.args.self.now in
    let ended : Session = without_waiter c.args.thread c.args.waiter session in
    let done : Option WatchKey → Session =
    λ key. watched_by c.args.reply.now c.args.asking.now key ended in
    c.end.ensures.session
    ∙ ap (without_waiter c.args.thread c.args.waiter) c.in_ok-watch.ensures.ok
    ∙ ended-watched c.args.thread c.args.waiter c.args.reply.now c.args.asking.now
    c.key_of.result session
    ∙ ap done c.key_of.ensures
    ∙ ap (λ (w : Waiter). done (key_in session c.args.thread w.want)) c.waiter.view_is
    ∙ ap
    (λ b. if b then refused c.args.thread c.args.waiter c.args.asking.now c.args.reply.now session
    else done (key_in session c.args.thread c.args.waiter.want))
    (sym c.if-waits_for.false ∙ c.waits_for.ensures.value)
