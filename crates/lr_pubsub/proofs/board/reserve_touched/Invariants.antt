use Rattle.std.proofs.Common.{◌≡◌, ℕ, false, length}
use Rattle.lr_model.specs.Board.{numbers_below}
use Rattle.lr_pubsub.specs.ConnectionSet.{has_number}
use Rattle.lr_pubsub.specs.ConnectionSlot.{HasSpare, connections_of, slot_at}
use Rattle.lr_pubsub.proofs.board.reserve_touched.Given as goal

abbrev pub invariant-loop-conn : goal.invariant-loop-conn
invariant-loop-conn l = record {
  many : length l.slots.items ≡ length l.initial.slots.items;
  same : connections_of l.slots.items ≡ connections_of l.initial.slots.items;
  spare : (conn : ℕ) → has_number l.touched conn ≡ false → HasSpare (slot_at l.slots.items conn);
}

abbrev pub decreases-loop-conn : goal.decreases-loop-conn
decreases-loop-conn l = length (numbers_below 256 (has_number l.touched))
