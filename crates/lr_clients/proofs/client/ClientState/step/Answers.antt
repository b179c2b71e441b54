use Rattle.std.proofs.Common.{ap, sym, ◌∙◌}
use Rattle.lr_waiting.specs.declared.watch.WatchKey.{WatchKey}
use Rattle.lr_waiting.specs.Client.{Client, client_row, take_renewed}
use Rattle.lr_waiting.specs.Session.{renew_row}
use Rattle.lr_waiting.specs.Watchdog.{renew_fault}
use Rattle.lr_machine.specs.declared.event.Event.{Event}
use Rattle.lr_machine.specs.declared.shown.Found.TheVariants as found
use Rattle.lr_machine.specs.declared.shown.Shown.TheVariants as shows
use Rattle.lr_machine.specs.Shown.{found_for, renewed_from, shown_fault, shown_of}
use Rattle.lr_clients.specs.Client.{client_of}
use Rattle.lr_clients.specs.Rows.{row_by, row_or, shown_by}
use Rattle.lr_clients.proofs.client.ClientState.step.Goals as goal

pub returns-in-RenewAsk-clause-shown : goal.returns-in-RenewAsk-clause-shown
returns-in-RenewAsk-clause-shown c =
    let old : Client = client_of c.args.self.now in
    c.renew_ask.ensures.shown
    ∙ ap (λ (key : WatchKey). shown_fault old
    (renew_fault c.args.moment key old.session.watchdog)) c.hold_key.ensures
    ∙ ap (λ (event : Event). shown_by c.args.moment event old) (sym c.in-RenewAsk.is)

pub returns-in-RenewAsk-clause-next : goal.returns-in-RenewAsk-clause-next
returns-in-RenewAsk-clause-next c =
    let old : Client = client_of c.args.self.now in
    c.renew_ask.ensures.next
    ∙ ap (λ (key : WatchKey). row_or old (client_row (renew_row key c.args.moment) old))
    c.hold_key.ensures
    ∙ ap (λ (event : Event). row_or old (row_by c.args.moment event old)) (sym c.in-RenewAsk.is)

pub returns-in-RenewTake-clause-shown : goal.returns-in-RenewTake-clause-shown
returns-in-RenewTake-clause-shown c =
    let old : Client = client_of c.args.self.now in
    c.renew_take.ensures.shown
    ∙ ap (λ (key : WatchKey). shown_of shows.RenewTaken
    (renewed_from key (old.renewed key) old.session) (found_for old found.Renewal))
    c.hold_key-in-RenewTake.ensures
    ∙ ap (λ (event : Event). shown_by c.args.moment event old) (sym c.in-RenewTake.is)

pub returns-in-RenewTake-clause-next : goal.returns-in-RenewTake-clause-next
returns-in-RenewTake-clause-next c =
    let old : Client = client_of c.args.self.now in
    c.renew_take.ensures.next
    ∙ ap (λ (key : WatchKey). row_or old (take_renewed key old)) c.hold_key-in-RenewTake.ensures
    ∙ ap (λ (event : Event). row_or old (row_by c.args.moment event old)) (sym c.in-RenewTake.is)
