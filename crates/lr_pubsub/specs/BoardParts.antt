-- What a board keeps, and how its parts fit together: this project's own.
use Rattle.std.specs.Prelude.{◌≡◌, ℕ, ◌<◌, ◌≤◌, nat_lt, List, [], length, Bool, false, ◌&&◌, not, IsTrue}
use Rattle.lr_names.specs.Channel.{ChannelOf}
use Rattle.lr_limits.specs.Limits.{connection_limit}
use Rattle.lr_model.specs.Board.{has_channel, is_open}
use Rattle.lr_pubsub.specs.Connection.{is_usable}
use Rattle.lr_pubsub.specs.declared.connection_set.ConnectionSet.{ConnectionSet}
use Rattle.lr_pubsub.specs.ConnectionSet.{has_number}
use Rattle.lr_pubsub.specs.ConnectionSlot.{ConnectionSlotValue, HasSpare, connection_at, slot_at}
use Rattle.lr_pubsub.specs.Subscribers.{listeners}

-- the parts of a board
pub record BoardParts : Type 0 where
  -- the places of the connections by their numbers
  pub slots : List ConnectionSlotValue
  -- the numbers at which no connection is open
  pub free : ConnectionSet
  -- the connections that may have used or lost a spare place
  pub touched : ConnectionSet
  -- who has which channel, and for how many channels more there is room
  pub rows : List (ChannelOf × ConnectionSet)
  pub spare_rows : ℕ
  -- those that a message drops while it is sent, and for how many there is room
  pub dropping : List ℕ
  pub dropping_room : ℕ
  -- whether the next message, subscription or leave needs no memory
  pub ready : Bool

-- that it needs none: everyone has its spare places, and there is room for a channel that nobody
-- has yet, and for all that a message may drop
pub record IsReady (parts : BoardParts) : Type 0 where
  pub untouched : (conn : ℕ) → has_number parts.touched conn ≡ false
  pub row : 0 < parts.spare_rows
  pub dropping : connection_limit ≤ parts.dropping_room

-- there is a slot for each number, and those at which none is open are free; each channel lists
-- exactly those that have it, and they can be used; whoever wasn't touched has its spare places
pub record IsBoard (parts : BoardParts) : Type 0 where
  pub numbered : length parts.slots ≡ connection_limit
  pub free : has_number parts.free
      ≡ (λ conn. nat_lt conn connection_limit && not (is_open (connection_at parts.slots conn)))
  pub listed : (channel : ChannelOf) → listeners channel parts.rows
      ≡ (λ conn. has_channel channel (connection_at parts.slots conn))
  pub usable : (conn : ℕ) (channel : ChannelOf)
      → IsTrue (has_channel channel (connection_at parts.slots conn))
      → IsTrue (is_usable (connection_at parts.slots conn))
  pub spare : (conn : ℕ) → has_number parts.touched conn ≡ false
      → HasSpare (slot_at parts.slots conn)
  pub sent : parts.dropping ≡ []
  pub prepared : IsTrue parts.ready → IsReady parts
