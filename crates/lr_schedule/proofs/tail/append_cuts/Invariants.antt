use Rattle.std.proofs.Common.{◌≡◌, ◌++◌, take, codes, decimal}
use Rattle.std.specs.List.{flat_map}
use Rattle.lr_machine.specs.Clients.{client_at}
use Rattle.lr_schedule.proofs.tail.append_cuts.Given as goal

abbrev pub invariant-loop-connection : goal.invariant-loop-connection
invariant-loop-connection l =
    l.out
    ≡ l.initial.out
    ++ flat_map (λ connection. codes " cut " ++ decimal (client_at connection))
    (take l.connection-index l.connections)
