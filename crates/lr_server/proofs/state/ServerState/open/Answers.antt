use Rattle.std.proofs.Common.{arith, sym, ◌≤◌}
use Rattle.lr_limits.specs.Limits.{connection_limit}
use Rattle.lr_pubsub.specs.BoardValue.{board_of}
use Rattle.lr_server.proofs.Serves.{least_is_free, serves_as_shown, serves_pushed, serves_open}
use Rattle.lr_server.proofs.state.ServerState.open.Goals as goal

pub open-requires-clause-number : goal.open-requires-clause-number
open-requires-clause-number c =
    (least_is_free (board_of c.self.inside.board) c.in-Some.conn (sym c.in-Some.ensures)).0

pub open-requires-clause-free : goal.open-requires-clause-free
open-requires-clause-free c =
    (least_is_free (board_of c.self.inside.board) c.in-Some.conn (sym c.in-Some.ensures)).1

pub invariant_of-self-2 : goal.invariant_of-self-2
invariant_of-self-2 c =
    let room : connection_limit ≤ c.append.new.history.spare =
    omega (arith, c.in_ok-reserve.ensures.ok, c.append.ensures.spare) in
    serves_pushed c.self.view_is c.entry-entry.ensures.value c.reserve.ensures.entries
    c.append.ensures.entries c.append.ensures.moment
    (serves_open (serves_as_shown c.self.view_is c.self.invariant) c.args.reading c.args.caller
    c.in-Some.conn c.entry-entry.ensures.early c.open.new.self c.append.new.history.spare
    (sym c.in-Some.ensures) c.open.ensures room)
