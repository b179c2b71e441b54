-- What contracts see of the latches of a client, and the latches of the definitions that they are.
use Rattle.std.specs.Prelude.{ℕ, ◌≡◌, ◌≤◌, ◌<◌, ◌+◌, ◌==◌, false, List, [], ◌∷◌, if◌then◌else◌}
use Rattle.lr_names.specs.Channel.{ChannelOf}
use Rattle.lr_waiting.specs.declared.latch.LatchEntry.{LatchEntry}
use Rattle.lr_waiting.specs.declared.latch.Order.{Order}
use Rattle.lr_model.specs.Board.{same_channel}
use Rattle.lr_waiting.specs.Latch.{Latches, no_entry, is_kept}

-- orders, and how many more fit without memory
pub record OrdersValue : Type 0 where
  pub list : List Order
  pub room : ℕ

-- the entries by their channels, and the orders that wait
pub record LatchesValue : Type 0 where
  pub rows : List (ChannelOf × LatchEntry)
  pub orders : List Order

-- the entry of a channel
abbrev pub entry_in : List (ChannelOf × LatchEntry) → ChannelOf → LatchEntry
entry_in [] channel = no_entry
entry_in (row ∷ rows) channel = if same_channel channel row.0 then row.1 else entry_in rows channel

-- the latches that they are
abbrev pub latches_of : LatchesValue → Latches
latches_of value = record { entries = entry_in value.rows; orders = value.orders }

-- 1 for a channel on which threads wait: they will leave it by an order
abbrev pub orders_due : LatchEntry → ℕ
orders_due entry = if entry.registered == 0 then 0 else 1

-- how many channels threads wait on
abbrev pub waiting : List (ChannelOf × LatchEntry) → ℕ
waiting [] = 0
waiting (row ∷ rows) = orders_due row.1 + waiting rows

-- an entry that is needed still, or none: permits are there only where threads wait
pub record IsEntry (entry : LatchEntry) : Type 0 where
  pub permits : 0 < entry.permits → 0 < entry.registered
  pub kept : is_kept entry ≡ false → entry ≡ no_entry

-- the same of each channel
pub record AreEntries (rows : List (ChannelOf × LatchEntry)) : Type 0 where
  pub at : (channel : ChannelOf) → IsEntry (entry_in rows channel)

-- there is room for the orders by which all channels will be left on which threads wait
pub record IsLatches (rows : List (ChannelOf × LatchEntry)) (orders : OrdersValue) : Type 0 where
  pub room : waiting rows ≤ orders.room
  pub entries : AreEntries rows
