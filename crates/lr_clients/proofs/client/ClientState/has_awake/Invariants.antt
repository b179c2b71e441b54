use Rattle.std.proofs.Common.{◌≡◌, false}
use Rattle.std.specs.List.{list_any}
use Rattle.lr_waiting.specs.Stand.{is_awake}
use Rattle.lr_clients.specs.Client.{client_of}
use Rattle.lr_clients.proofs.ThreadLists.{threads_below}
use Rattle.lr_clients.proofs.client.ClientState.has_awake.Given as goal

abbrev pub invariant-loop-thread : goal.invariant-loop-thread
invariant-loop-thread l =
    list_any (is_awake l.channel (client_of l.self)) (threads_below l.thread) ≡ false
