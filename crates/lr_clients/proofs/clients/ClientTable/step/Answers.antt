use Rattle.std.proofs.Common.{◌≡◌, ◌-◌, List, slice_set, Result, Ok, Err, IfOk, OnOk, ap, ◌∙◌, subst, arith}
use Rattle.std.specs.declared.alloc.AllocError.{AllocError}
use Rattle.lr_waiting.specs.Client.{Client}
use Rattle.lr_machine.specs.declared.shown.Shown.{Shown}
use Rattle.lr_machine.specs.World.{clients_after}
use Rattle.lr_machine.specs.Within.{IsClient}
use Rattle.lr_clients.specs.Client.{ClientValue, client_of, clients_of}
use Rattle.lr_clients.specs.Rows.{row_by, row_or, shown_by}
use Rattle.lr_clients.proofs.Steps.{alone-within}
use Rattle.lr_clients.proofs.Places.{client-read, clients-stepped}
use Rattle.lr_clients.proofs.clients.ClientTable.step.Goals as goal

within : (c : goal.After-self-1) → IsClient c.args.client
within c = alone-within c.args.event.now c.args.client c.requires.alone c.requires.within

read : (c : goal.After-self-1)
    → client_of c.index_mut.result.now ≡ clients_of c.self.inside.rows.items c.args.client
read c =
    let one = (within c).0 in
    let most = (within c).1 in
    client-read c.self.inside.rows.items c.args.client c.index_mut.result.now one
    (omega (arith, most, c.self.invariant)) c.index_mut.ensures.value

pub returns-clause-shown : goal.returns-clause-shown
returns-clause-shown c =
    subst (λ (client : Client). IfOk c.step.result (λ (shown : Shown). shown
    ≡ shown_by c.args.moment c.args.event.now client))
    (read c ∙ ap (λ (rows : List ClientValue). clients_of rows c.args.client) c.self.view_is)
    c.step.ensures.shown

pub returns-clause-next : goal.returns-clause-next
returns-clause-next c = by c.step.result c.step.ensures.next
  where
    old : Client
    old = client_of c.index_mut.result.now

    stepped : client_of c.step.new.self ≡ row_or old (row_by c.args.moment c.args.event.now old)
        → clients_of (slice_set c.self.inside.rows.items (c.args.client - 1) c.step.new.self)
        ≡ clients_after (clients_of c.args.self.now) c.args.client
        (row_by c.args.moment c.args.event.now (clients_of c.args.self.now c.args.client))
    stepped now =
        let fits = within c in
        clients-stepped c.self.inside.rows.items c.args.client c.index_mut.result.now
        c.step.new.self (row_by c.args.moment c.args.event.now old) fits.0
        (omega (arith, fits.1, c.self.invariant)) c.index_mut.ensures.value now
        ∙ ap (λ (client : Client). clients_after (clients_of c.self.inside.rows.items)
        c.args.client (row_by c.args.moment c.args.event.now client)) (read c)
        ∙ ap (λ (rows : List ClientValue). clients_after (clients_of rows) c.args.client
        (row_by c.args.moment c.args.event.now (clients_of rows c.args.client))) c.self.view_is

    by : (r : Result Shown AllocError)
        → OnOk r (client_of c.step.new.self
        ≡ row_or old (row_by c.args.moment c.args.event.now old))
        → OnOk r (clients_of (slice_set c.self.inside.rows.items (c.args.client - 1) c.step.new.self)
        ≡ clients_after (clients_of c.args.self.now) c.args.client
        (row_by c.args.moment c.args.event.now (clients_of c.args.self.now c.args.client)))
    by (Ok shown) now = stepped now
    by (Err e) now = tt
