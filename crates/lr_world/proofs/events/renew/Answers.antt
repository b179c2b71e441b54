use Rattle.std.proofs.Common.{◌==◌, ℕ, Some, sym, ap, ◌∙◌}
use Rattle.lr_objects.specs.declared.op.Op.{Op}
use Rattle.lr_objects.specs.declared.reply.Reply.{Reply}
use Rattle.lr_model.specs.History.{State, after, call_entry}
use Rattle.lr_model.specs.Table.{put}
use Rattle.lr_waiting.specs.Client.{Client, with_renewed}
use Rattle.lr_machine.specs.Clients.{client_caller, command_connection}
use Rattle.lr_machine.specs.declared.shown.Shown.TheVariants as shows
use Rattle.lr_machine.specs.Shown.{shown_call, shown_renew}
use Rattle.lr_machine.specs.World.{World, dropped_at, first_state, next_renewal, renewed_in, with_call, with_cut, with_entry}
use Rattle.lr_clients.specs.Client.{clients_of}
use Rattle.lr_world.specs.World.{world_with}
use Rattle.lr_world.proofs.DropLaws.{called-in_time, called-open, called-shown, called-world}
use Rattle.lr_world.proofs.RenewalLaws.{renewal-none, renewal-some}
use Rattle.lr_world.proofs.Servers.{on_err}
use Rattle.lr_world.proofs.events.renew.Goals as goal

-- where there is none to run

pub returns-in_default-clause-shown : goal.returns-in_default-clause-shown
returns-in_default-clause-shown c =
    let world : World =
    world_with c.args.server.now.entries c.args.moment c.args.clients.now in
    ap shows.No c.found_for.ensures
    ∙ ap (shown_renew world c.args.client c.args.key.now)
    (sym (renewal-none world c.args.client c.args.key.now
    (sym c.renewal.ensures ∙ c.in_default.is)))

pub returns-in_default-clause-next : goal.returns-in_default-clause-next
returns-in_default-clause-next c =
    let world : World =
    world_with c.args.server.now.entries c.args.moment c.args.clients.now in
    ap (next_renewal world c.args.client c.args.key.now)
    (sym (renewal-none world c.args.client c.args.key.now
    (sym c.renewal.ensures ∙ c.in_default.is)))

-- where there is no memory

pub returns-in_err-reserve_renewed-clause-clients_err : goal.returns-in_err-reserve_renewed-clause-clients_err
returns-in_err-reserve_renewed-clause-clients_err c =
    on_err c.from_residual.result c.in_err-reserve_renewed.ensures.same

pub returns-in_err-called-clause-clients_err : goal.returns-in_err-called-clause-clients_err
returns-in_err-called-clause-clients_err c =
    on_err c.from_residual-in_err-called.result c.reserve_renewed.ensures.same

-- where it is run

pub cut_dropped-requires-clause-opened : goal.cut_dropped-requires-clause-opened
cut_dropped-requires-clause-opened c =
    called-open c.args.server.now c.call.new.server c.args.moment c.client_caller.result
    c.command_connection-connection.result c.in-Some.op c.in_ok-called.called
    c.in_ok-called.ensures.called c.in_ok-called.ensures.entry (clients_of c.args.clients.now)
    c.requires.in_order.connected

pub cut_dropped-requires-clause-in_time : goal.cut_dropped-requires-clause-in_time
cut_dropped-requires-clause-in_time c =
    called-in_time c.args.server.now c.call.new.server c.args.moment c.client_caller.result
    c.command_connection-connection.result c.in-Some.op c.in_ok-called.called
    c.in_ok-called.ensures.called c.in_ok-called.ensures.entry

pub returns-clause-shown : goal.returns-clause-shown
returns-clause-shown c =
    let world : World =
    world_with c.args.server.now.entries c.args.moment c.args.clients.now in
    let renewal = renewal-some world c.args.client c.args.key.now c.in-Some.op
    (sym c.renewal.ensures ∙ c.in-Some.is) in
    c.cut_dropped.ensures.shown
    ∙ called-shown c.args.server.now c.call.new.server c.args.moment c.client_caller.result
    c.command_connection-connection.result c.in-Some.op c.in_ok-called.called
    c.in_ok-called.ensures.called c.in_ok-called.ensures.entry
    ∙ ap (shown_call world) renewal.call
    ∙ ap (shown_renew world c.args.client c.args.key.now) (sym renewal.asked)

pub returns-clause-next : goal.returns-clause-next
returns-clause-next c =
    let world : World =
    world_with c.args.server.now.entries c.args.moment c.args.clients.now in
    let state : State = after first_state c.args.server.now.entries in
    let clients : ℕ → Client = clients_of c.args.clients.now in
    let client : ℕ = c.args.client in
    let op : Op = c.in-Some.op in
    let renewal = renewal-some world client c.args.key.now op
    (sym c.renewal.ensures ∙ c.in-Some.is) in
    c.cut_dropped.ensures.world
    ∙ called-world c.args.server.now c.call.new.server c.args.moment c.client_caller.result
    c.command_connection-connection.result op c.in_ok-called.called
    c.in_ok-called.ensures.called c.in_ok-called.ensures.entry
    (clients_of c.answer_renewal.new.self)
    ∙ ap (λ (n : ℕ). with_cut (dropped_at state c.args.moment op)
    (with_entry (call_entry c.args.moment n c.command_connection-connection.result op)
    (world_with c.args.server.now.entries c.args.moment c.answer_renewal.new.self)))
    c.client_caller.ensures
    ∙ ap (λ (n : ℕ). with_cut (dropped_at state c.args.moment op)
    (with_entry (call_entry c.args.moment (client_caller client) n op)
    (world_with c.args.server.now.entries c.args.moment c.answer_renewal.new.self)))
    c.command_connection-connection.ensures
    ∙ ap (λ (now : ℕ → Client). with_cut (dropped_at state c.args.moment op)
    (with_entry
    (call_entry c.args.moment (client_caller client) (command_connection client) op)
    (record { entries = world.entries; moment = world.moment; clients = now })))
    (c.answer_renewal.ensures
    ∙ ap (λ (old : ℕ → Client). put ◌==◌ old client
    (with_renewed c.args.key.now (Some c.in_ok-called.called.reply) (old client)))
    c.reserve_renewed.ensures.same
    ∙ ap (λ (reply : Reply). put ◌==◌ clients client
    (with_renewed c.args.key.now (Some reply) (clients client)))
    c.in_ok-called.ensures.called.reply)
    ∙ ap (λ (made : Op). with_call (client_caller client) (command_connection client) made
    (renewed_in world client c.args.key.now made)) renewal.call
    ∙ ap (next_renewal world client c.args.key.now) (sym renewal.asked)
