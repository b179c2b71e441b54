use Rattle.std.proofs.Common.{◌≡◌, ◌+◌, ◌++◌, filter, length, not, vec_capacity}
use Rattle.lr_model.specs.Board.{has_room, numbers_below}
use Rattle.lr_pubsub.specs.ConnectionSet.{has_number}
use Rattle.lr_pubsub.specs.ConnectionSlot.{connection_at}
use Rattle.lr_pubsub.proofs.Deliveries.{IsTold}
use Rattle.lr_pubsub.proofs.delivery.tell_all.Given as goal

abbrev pub invariant-loop-conn : goal.invariant-loop-conn
invariant-loop-conn l = record {
  told : IsTold l.post (has_number l.initial.listeners)
      (has_number l.listeners) l.initial.slots.items l.slots.items;
  reached : l.reached
      + length (filter (λ conn. has_room (connection_at l.initial.slots.items conn))
      (numbers_below 256 (has_number l.listeners)))
      ≡ length (filter (λ conn. has_room (connection_at l.initial.slots.items conn))
      (numbers_below 256 (has_number l.initial.listeners)));
  full : l.full.items
      ++ filter (λ conn. not (has_room (connection_at l.initial.slots.items conn)))
      (numbers_below 256 (has_number l.listeners))
      ≡ filter (λ conn. not (has_room (connection_at l.initial.slots.items conn)))
      (numbers_below 256 (has_number l.initial.listeners));
  capacity : vec_capacity l.full ≡ vec_capacity l.initial.full;
}

abbrev pub decreases-loop-conn : goal.decreases-loop-conn
decreases-loop-conn l = length (numbers_below 256 (has_number l.listeners))
