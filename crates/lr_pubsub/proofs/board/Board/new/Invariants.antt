use Rattle.std.proofs.Common.{◌≡◌, ℕ, ◌<◌, ◌≤◌, length, if◌then◌else◌, nat_le, nat_lt, ◌&&◌, not, vec_capacity}
use Rattle.lr_model.specs.Board.{closed_connection, new_connection}
use Rattle.lr_pubsub.specs.ConnectionSet.{has_number}
use Rattle.lr_pubsub.specs.ConnectionSlot.{connection_at}
use Rattle.lr_pubsub.proofs.board.Board.new.Given as goal

abbrev pub invariant-loop-conn : goal.invariant-loop-conn
invariant-loop-conn l = record {
  many : length l.slots.items ≡ l.conn;
  room : 256 ≤ vec_capacity l.slots;
  shown : (k : ℕ) → k < l.conn → connection_at l.slots.items k
      ≡ (if nat_le k l.last then new_connection 0 else closed_connection);
  free : (k : ℕ) → has_number l.free k ≡ (nat_lt k l.conn && not (nat_le k l.last));
  touched : (k : ℕ) → has_number l.touched k ≡ (nat_lt k l.conn && nat_le k l.last);
}
