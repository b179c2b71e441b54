use Rattle.std.proofs.Common.{arith, ◌≤◌}
use Rattle.lr_limits.specs.Limits.{connection_limit}
use Rattle.lr_server.proofs.Serves.{serves_as_shown, serves_pushed, told_asked, serves_asked}
use Rattle.lr_server.proofs.state.ServerState.perform.Goals as goal

pub returns-clause-told : goal.returns-clause-told
returns-clause-told c =
    told_asked (serves_as_shown c.self.view_is c.self.invariant) c.args.reading c.args.caller
    c.args.conn c.entry-entry.ensures.early c.args.act c.entry-entry.result
    c.entry-entry.ensures.value c.in-Ok.answered c.make.new.keys c.reserve-2.new.self
    c.make.new.board c.reserve-2.ensures.same c.in-Ok.ensures.done

pub invariant_of-self-2 : goal.invariant_of-self-2
invariant_of-self-2 c =
    let room : connection_limit ≤ c.append.new.history.spare =
    omega (arith, c.in_ok-reserve.ensures.ok, c.append.ensures.spare) in
    serves_pushed c.self.view_is c.entry-entry.ensures.value c.reserve.ensures.entries
    c.append.ensures.entries c.append.ensures.moment
    (serves_asked (serves_as_shown c.self.view_is c.self.invariant) c.args.reading c.args.caller
    c.args.conn c.entry-entry.ensures.early c.args.act c.entry-entry.result
    c.entry-entry.ensures.value c.in-Ok.answered c.make.new.keys c.reserve-2.new.self
    c.make.new.board c.reserve-2.ensures.same c.in-Ok.ensures.done c.append.new.history.spare
    c.requires.asked c.requires.allowed room)
