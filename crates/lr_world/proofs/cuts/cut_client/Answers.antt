use Rattle.std.proofs.Common.{ℕ, IsTrue, sym, ap, ◌∙◌, subst}
use Rattle.lr_model.specs.declared.entry.Act.TheVariants.{Close}
use Rattle.lr_model.specs.Board.{is_open}
use Rattle.lr_model.specs.History.{State, after}
use Rattle.lr_machine.specs.Clients.{client_caller, command_connection, subscription_connection}
use Rattle.lr_machine.specs.World.{first_state}
use Rattle.lr_server.specs.Server.{state_of, entry_of, with_entry}
use Rattle.lr_clients.specs.Client.{clients_of}
use Rattle.lr_world.proofs.CutLaws.{IsClosed, close_of, closed, cut-one, ended, hears-still}
use Rattle.lr_world.proofs.Servers.{state_is}
use Rattle.lr_world.proofs.cuts.cut_client.Goals as goal

once : (c : goal.After-subscription_connection)
    → IsClosed c.args.server.now.entries
    (close_of c.args.moment (client_caller c.args.client) (command_connection c.args.client))
    c.close.new.self
once c =
    closed c.args.server.now c.args.moment (client_caller c.args.client)
    (command_connection c.args.client) c.close.new.self c.requires.first c.requires.in_time
    c.requires.early
    (c.close.ensures.entry
    ∙ ap (λ n. with_entry c.args.server.now
    (entry_of c.args.server.now c.args.moment n c.command_connection.result Close))
    c.client_caller-caller.ensures
    ∙ ap (λ n. with_entry c.args.server.now
    (entry_of c.args.server.now c.args.moment (client_caller c.args.client) n Close))
    c.command_connection.ensures)

pub close-requires-2 : goal.close-requires-2
close-requires-2 c =
    let one = once c in
    let now = state_is c.close.new.self one.last ∙ one.state in
    subst (λ (n : ℕ). IsTrue (is_open ((state_of c.close.new.self).board n)))
    (sym c.subscription_connection.ensures)
    (subst (λ (s : State). IsTrue (is_open (s.board (subscription_connection c.args.client))))
    (sym now)
    (hears-still (after first_state c.args.server.now.entries).board c.args.client
    c.requires.opened))

pub returns-clause-world : goal.returns-clause-world
returns-clause-world c =
    let entries =
    ended c.args.server.now c.close.new.self c.close-2.new.self c.args.moment c.args.client
    c.client_caller-caller.result c.command_connection.result c.subscription_connection.result
    c.requires.first c.requires.in_time c.requires.early c.client_caller-caller.ensures
    c.command_connection.ensures c.subscription_connection.ensures c.close.ensures.entry
    c.close-2.ensures.entry in
    let clients = c.cut.ensures ∙ cut-one (clients_of c.args.clients.now) c.args.client in
    λ i. record { entries = entries i; moment = c.args.moment; clients = clients i }
