use Rattle.std.proofs.Common.{◌≡◌, drop}
use Rattle.lr_pubsub.proofs.connection_slot.drop_first.Given as goal

abbrev pub invariant-loop : goal.invariant-loop
invariant-loop l = l.outbox.items ≡ drop l.counter l.initial.outbox.items
