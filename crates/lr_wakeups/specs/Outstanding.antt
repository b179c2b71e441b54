-- Outstanding acknowledgements: what a client has ordered and the server hasn't acknowledged yet is
-- accounted for, in the orders that wait and in what is on its way to the client.
use Rattle.std.specs.Prelude.{◌≡◌, ℕ, ◌+◌, ◌≤◌, List, Bool, false, ◌&&◌}
use Rattle.lr_names.specs.Channel.{ChannelOf}
use Rattle.lr_names.specs.declared.post.Push.{Push}
use Rattle.lr_names.specs.declared.post.Push.TheVariants.{Subscribed}
use Rattle.lr_waiting.specs.declared.latch.LatchEntry.{LatchEntry}
use Rattle.lr_waiting.specs.declared.latch.Order.{Order}
use Rattle.lr_model.specs.Board.{same_channel}
use Rattle.lr_wakeups.specs.Counting.{count_of}

-- whether an order is to subscribe to this channel
abbrev pub is_subscribe_on : ChannelOf → Order → Bool
is_subscribe_on channel order = order.subscribe && same_channel channel order.channel

-- whether an item acknowledges an order to subscribe to this channel
abbrev pub is_acknowledgement_on : ChannelOf → Push → Bool
is_acknowledgement_on channel (Subscribed other channels) = same_channel channel other
is_acknowledgement_on channel _ = false

-- how many orders to subscribe wait for the server
abbrev pub subscribes_waiting : ChannelOf → List Order → ℕ
subscribes_waiting channel orders = count_of (is_subscribe_on channel) orders

-- how many acknowledgements of such orders are on their way to the client
abbrev pub acknowledgements_in_flight : ChannelOf → List Push → ℕ
acknowledgements_in_flight channel outbox = count_of (is_acknowledgement_on channel) outbox

-- Each order to subscribe that was made was acknowledged, or waits, or its acknowledgement is on its
-- way. They are at most n, which is below 2^64, so no number has gone on from 0.
pub record IsAccounted (n : ℕ) (channel : ChannelOf) (entry : LatchEntry) (orders : List Order)
    (outbox : List Push) : Type 0 where
  pub sum : entry.sent
      ≡ entry.acknowledged
      + (subscribes_waiting channel orders + acknowledgements_in_flight channel outbox)
  pub few : entry.sent ≤ n
