use Rattle.std.proofs.Common.{◌≡◌}
use Rattle.lr_waiting.specs.Stand.{due_of, least_of}
use Rattle.lr_clients.specs.Client.{client_of}
use Rattle.lr_clients.proofs.ThreadLists.{threads_below}
use Rattle.lr_clients.proofs.client.ClientState.least_due.Given as goal

abbrev pub invariant-loop-thread : goal.invariant-loop-thread
invariant-loop-thread l =
    l.least ≡ least_of (due_of l.channel (client_of l.self)) (threads_below l.thread)
