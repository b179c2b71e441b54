use Rattle.std.proofs.Common.{arith, ◌≤◌}
use Rattle.lr_limits.specs.Limits.{connection_limit}
use Rattle.lr_server.proofs.Serves.{serves_as_shown, serves_pushed, serves_drain}
use Rattle.lr_server.proofs.state.ServerState.take.Goals as goal

pub invariant_of-self-2 : goal.invariant_of-self-2
invariant_of-self-2 c =
    let room : connection_limit ≤ c.append.new.history.spare =
    omega (arith, c.in_ok-reserve.ensures.ok, c.append.ensures.spare) in
    serves_pushed c.self.view_is c.entry-entry.ensures.value c.reserve.ensures.entries
    c.append.ensures.entries c.append.ensures.moment
    (serves_drain (serves_as_shown c.self.view_is c.self.invariant) c.args.reading c.args.caller
    c.args.conn c.entry-entry.ensures.early c.args.most c.drain.new.self
    c.append.new.history.spare c.requires.allowed c.in-Ok.ensures.ok room)
