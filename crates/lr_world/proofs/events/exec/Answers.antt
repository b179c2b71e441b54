use Rattle.std.proofs.Common.{◌==◌, ℕ, Some, sym, ap, ◌∙◌}
use Rattle.lr_objects.specs.declared.reply.Reply.{Reply}
use Rattle.lr_model.specs.History.{State, after, call_entry}
use Rattle.lr_model.specs.Table.{put}
use Rattle.lr_waiting.specs.Client.{Client, with_reply}
use Rattle.lr_machine.specs.Clients.{caller_of, command_connection}
use Rattle.lr_machine.specs.World.{World, dropped_at, first_state, next_exec, with_cut, with_entry}
use Rattle.lr_clients.specs.Client.{clients_of}
use Rattle.lr_world.specs.World.{world_with}
use Rattle.lr_world.proofs.DropLaws.{called-in_time, called-open, called-world}
use Rattle.lr_world.proofs.events.exec.Goals as goal

pub cut_dropped-requires-clause-opened : goal.cut_dropped-requires-clause-opened
cut_dropped-requires-clause-opened c =
    called-open c.args.server.now c.call.new.server c.args.moment c.caller.result
    c.command_connection-connection.result c.in-Some.asking.op c.in_ok-called.called
    c.in_ok-called.ensures.called c.in_ok-called.ensures.entry (clients_of c.args.clients.now)
    c.requires.in_order.connected

pub cut_dropped-requires-clause-in_time : goal.cut_dropped-requires-clause-in_time
cut_dropped-requires-clause-in_time c =
    called-in_time c.args.server.now c.call.new.server c.args.moment c.caller.result
    c.command_connection-connection.result c.in-Some.asking.op c.in_ok-called.called
    c.in_ok-called.ensures.called c.in_ok-called.ensures.entry

pub returns-clause-next : goal.returns-clause-next
returns-clause-next c =
    let world : World =
    world_with c.args.server.now.entries c.args.moment c.args.clients.now in
    let state : State = after first_state c.args.server.now.entries in
    let clients : ℕ → Client = clients_of c.args.clients.now in
    c.cut_dropped.ensures.world
    ∙ called-world c.args.server.now c.call.new.server c.args.moment c.caller.result
    c.command_connection-connection.result c.in-Some.asking.op c.in_ok-called.called
    c.in_ok-called.ensures.called c.in_ok-called.ensures.entry (clients_of c.answer.new.self)
    ∙ ap (λ (n : ℕ). with_cut (dropped_at state c.args.moment c.in-Some.asking.op)
    (with_entry
    (call_entry c.args.moment n c.command_connection-connection.result c.in-Some.asking.op)
    (world_with c.args.server.now.entries c.args.moment c.answer.new.self))) c.caller.ensures
    ∙ ap (λ (n : ℕ). with_cut (dropped_at state c.args.moment c.in-Some.asking.op)
    (with_entry
    (call_entry c.args.moment (caller_of c.args.id.client c.args.id.thread) n
    c.in-Some.asking.op)
    (world_with c.args.server.now.entries c.args.moment c.answer.new.self)))
    c.command_connection-connection.ensures
    ∙ ap (λ (now : ℕ → Client). with_cut (dropped_at state c.args.moment c.in-Some.asking.op)
    (with_entry
    (call_entry c.args.moment (caller_of c.args.id.client c.args.id.thread)
    (command_connection c.args.id.client) c.in-Some.asking.op)
    (record { entries = world.entries; moment = world.moment; clients = now })))
    (c.answer.ensures
    ∙ ap (λ (reply : Reply). put ◌==◌ clients c.args.id.client
    (with_reply c.args.id.thread (Some reply) (clients c.args.id.client)))
    c.in_ok-called.ensures.called.reply)
    ∙ ap (next_exec world c.args.id.client c.args.id.thread) (sym c.in-Some.is ∙ c.asked.ensures)
