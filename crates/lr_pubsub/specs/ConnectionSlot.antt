-- The place of one connection on a board, and the list of all of them: this project's own.
use Rattle.std.specs.Prelude.{◌≡◌, ℕ, ◌^◌, ◌-◌, ◌<◌, ◌≤◌, List, length, map, get_or, None, IsTrue}
use Rattle.lr_model.specs.Board.{Connection, closed_connection, has_room}
use Rattle.lr_pubsub.specs.Connection.{is_usable}

-- the connection, and how many more items and channels it takes without memory
pub record ConnectionSlotValue : Type 0 where
  pub connection : Connection
  pub room : ℕ
  pub channel_room : ℕ

-- a number of channels is told as one of 32 bits
abbrev pub most_channels : ℕ
most_channels = 2 ^ 32 - 1

-- a place at which no connection is open has nothing, and channels can be counted
pub record IsConnectionSlot (connection : Connection) : Type 0 where
  pub closed : connection.opener ≡ None → connection ≡ closed_connection
  pub counted : length connection.channels ≤ most_channels

-- the spare places of a connection that can be used: one item more, unless its outbox is full,
-- and one channel more take no memory
pub record HasSpare (slot : ConnectionSlotValue) : Type 0 where
  pub item : IsTrue (is_usable slot.connection) → IsTrue (has_room slot.connection) → 0 < slot.room
  pub channel : IsTrue (is_usable slot.connection) → 0 < slot.channel_room

abbrev pub closed_slot : ConnectionSlotValue
closed_slot = record { connection = closed_connection; room = 0; channel_room = 0 }

-- the place of a number, and the connection there: behind the last none is open
abbrev pub slot_at : List ConnectionSlotValue → ℕ → ConnectionSlotValue
slot_at slots conn = get_or slots conn closed_slot

abbrev pub connection_at : List ConnectionSlotValue → ℕ → Connection
connection_at slots conn = (slot_at slots conn).connection

-- the connections in order of their numbers
abbrev pub connections_of : List ConnectionSlotValue → List Connection
connections_of slots = map (λ slot. slot.connection) slots
