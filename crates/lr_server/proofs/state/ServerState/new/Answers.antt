use Rattle.std.proofs.Common.{arith, ◌≤◌, ◌∙◌}
use Rattle.lr_limits.specs.Limits.{connection_limit}
use Rattle.lr_server.proofs.Serves.{serves_first}
use Rattle.lr_server.proofs.state.ServerState.new.Goals as goal

pub invariant_of-result : goal.invariant_of-result
invariant_of-result c =
    let room : connection_limit ≤ c.reserve.new.self.spare =
    omega (arith, c.in_ok-reserve.ensures.ok) in
    serves_first c.args.last c.reserve.new.self.entries c.in_ok-new.field-0 c.in_ok-new-2.field-0
    c.reserve.new.self.spare c.requires (c.reserve.ensures.entries ∙ c.in_ok-history.ensures)
    c.in_ok-new.ensures.none c.in_ok-new.ensures.moment c.in_ok-new-2.ensures room
