use Rattle.std.proofs.Common.{◌≡◌, ◌==◌, ℕ, Bool, Option, Some, None, slice_get, if◌then◌else◌, sym, ap, ◌∙◌}
use Rattle.lr_names.specs.declared.post.Push.{Push}
use Rattle.lr_model.specs.Table.{put}
use Rattle.lr_waiting.specs.Client.{Client}
use Rattle.lr_waiting.specs.Session.{pushed}
use Rattle.lr_machine.specs.declared.shown.Found.TheVariants as found
use Rattle.lr_machine.specs.Shown.{found_for, shown_item, shown_of}
use Rattle.lr_machine.specs.World.{World, next_item}
use Rattle.lr_clients.specs.Client.{clients_of}
use Rattle.lr_world.specs.Steps.{heard_on, with_item}
use Rattle.lr_world.specs.World.{world_with}
use Rattle.lr_world.proofs.Servers.{on_err}
use Rattle.lr_world.proofs.items.push.Goals as goal

pub returns-in_err-reserve-clause-clients_err : goal.returns-in_err-reserve-clause-clients_err
returns-in_err-reserve-clause-clients_err c =
    on_err c.from_residual.result c.in_err-reserve.ensures.same

pub returns-in_err-item-clause-clients_err : goal.returns-in_err-item-clause-clients_err
returns-in_err-item-clause-clients_err c =
    on_err c.from_residual-in_err-item.result c.reserve.ensures.same

pub push-requires-clause-uncut : goal.push-requires-clause-uncut
push-requires-clause-uncut c =
    ap (λ (clients : ℕ → Client). (clients c.args.client).session.is_cut) c.reserve.ensures.same
    ∙ sym c.is_cut.ensures ∙ c.if-is_cut.false

pub returns-in-Some-clause-shown : goal.returns-in-Some-clause-shown
returns-in-Some-clause-shown c =
    let client : Client = clients_of c.args.clients.now c.args.client in
    c.push.ensures.shown
    ∙ ap (λ (clients : ℕ → Client). shown_item (clients c.args.client).session c.in-Some.item)
    c.reserve.ensures.same
    ∙ ap (λ (item : Option Push). shown_of (shown_item client.session) item
    (found_for client found.Pushes)) (sym c.in-Some.is ∙ c.in_ok-item.ensures.item)
    ∙ ap (λ (cut : Bool). shown_of (shown_item client.session)
    (if cut then None else slice_get (heard_on c.args.server.now.entries c.args.client).outbox 0)
    (found_for client found.Pushes)) (sym c.if-is_cut.false ∙ c.is_cut.ensures)

pub returns-in-Some-clause-next : goal.returns-in-Some-clause-next
returns-in-Some-clause-next c =
    let world : World =
    world_with c.args.server.now.entries c.args.moment c.args.clients.now in
    let found = sym c.in-Some.is ∙ c.in_ok-item.ensures.item in
    let entries : c.take_item.new.server
    ≡ with_item c.args.server.now c.args.moment c.args.client (Some c.in-Some.item) =
    c.in_ok-item.ensures.entry
    ∙ ap (with_item c.args.server.now c.args.moment c.args.client) (sym found) in
    let clients = c.push.ensures.next
    ∙ ap (λ (old : ℕ → Client). put ◌==◌ old c.args.client (record (old c.args.client) {
      session = pushed c.in-Some.item (old c.args.client).session;
    })) c.reserve.ensures.same in
    (λ i. record { entries = (entries i).entries; moment = c.args.moment; clients = clients i })
    ∙ ap (next_item world c.args.client) found
    ∙ ap (λ (cut : Bool). next_item world c.args.client
    (if cut then None else slice_get (heard_on c.args.server.now.entries c.args.client).outbox 0))
    (sym c.if-is_cut.false ∙ c.is_cut.ensures)

pub returns-in-None-clause-next : goal.returns-in-None-clause-next
returns-in-None-clause-next c =
    let world : World =
    world_with c.args.server.now.entries c.args.moment c.args.clients.now in
    let found = sym c.in-None.is ∙ c.in_ok-item.ensures.item in
    let entries : c.take_item.new.server ≡ c.args.server.now =
    c.in_ok-item.ensures.entry
    ∙ ap (with_item c.args.server.now c.args.moment c.args.client) (sym found) in
    (λ i. record {
      entries = (entries i).entries;
      moment = c.args.moment;
      clients = c.reserve.ensures.same i;
    })
    ∙ ap (next_item world c.args.client) found
    ∙ ap (λ (cut : Bool). next_item world c.args.client
    (if cut then None else slice_get (heard_on c.args.server.now.entries c.args.client).outbox 0))
    (sym c.if-is_cut.false ∙ c.is_cut.ensures)
