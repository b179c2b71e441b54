use Rattle.std.proofs.Common.{ap, sym, ◌∙◌}
use Rattle.lr_waiting.specs.Client.{Client}
use Rattle.lr_waiting.specs.Session.{Session}
use Rattle.lr_waiting.specs.Told.{wakeup_by}
use Rattle.lr_machine.specs.declared.shown.Shown.TheVariants as shows
use Rattle.lr_machine.specs.Shown.{shown_of, shown_wakeup}
use Rattle.lr_session.specs.Value.{session_of}
use Rattle.lr_clients.specs.Client.{ClientValue, client_of}
use Rattle.lr_clients.specs.Rows.{found_in}
use Rattle.lr_clients.proofs.Steps.{no-wakeup}
use Rattle.lr_clients.proofs.client.ClientState.wake.Goals as goal

pub returns-in-Err-clause-shown : goal.returns-in-Err-clause-shown
returns-in-Err-clause-shown c =
    let old : Client =
    client_of (record {
      session = c.self.inside.session;
      replies = c.self.inside.replies;
      renewed = c.self.inside.renewed;
    }) in
    c.not_now.ensures
    ∙ ap (λ (s : Session). shows.No (found_in (record old { session = s }) c.args.thread))
    c.in-Err.ensures.err
    ∙ sym (ap (λ told. shown_of shown_wakeup told (found_in old c.args.thread))
    (no-wakeup c.args.thread old.session c.in-Err.ensures.fault.none))
    ∙ ap (λ (v : ClientValue). shown_of shown_wakeup
    (wakeup_by c.args.thread (session_of v.session)) (found_in (client_of v) c.args.thread))
    c.self.view_is
