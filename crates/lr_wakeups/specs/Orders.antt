-- Orders match what is registered: those that wait lead from what the server has to what the client
-- wants.
use Rattle.std.specs.Prelude.{◌≡◌, nat_lt, List, [], ◌∷◌, Bool, true, false, not, if◌then◌else◌}
use Rattle.lr_names.specs.Channel.{ChannelOf}
use Rattle.lr_names.specs.declared.post.Push.{Push}
use Rattle.lr_waiting.specs.declared.latch.LatchEntry.{LatchEntry}
use Rattle.lr_waiting.specs.declared.latch.Order.{Order}
use Rattle.lr_model.specs.Board.{same_channel, Connection, connection_after_subscribe, connection_after_unsubscribe}
use Rattle.lr_wakeups.specs.Counting.{count_of}
use Rattle.lr_wakeups.specs.Outstanding.{acknowledgements_in_flight}

-- whether a client wants to hear a channel: threads wait on it
abbrev pub is_wanted : LatchEntry → Bool
is_wanted entry = nat_lt 0 entry.registered

-- An order of the channel turns the subscription over: to subscribe comes only where there is no
-- subscription, and to leave only where there is one. Another order leaves it as it is.
abbrev pub TurnsOver : Bool → Bool → Bool → (Bool → Type 0) → Type 0
TurnsOver true subscribe has Rest = (subscribe ≡ not has) × Rest subscribe
TurnsOver false subscribe has Rest = Rest has

-- Where the connection has the channel or not, the orders that wait turn that over one by one, and
-- after the last one it is as the client wants.
abbrev pub LeadsTo : Bool → ChannelOf → List Order → Bool → Type 0
LeadsTo wanted channel [] has = has ≡ wanted
LeadsTo wanted channel (order ∷ orders) has =
    TurnsOver (same_channel channel order.channel) order.subscribe has
    (LeadsTo wanted channel orders)

pub record OrdersMatch (channel : ChannelOf) (entry : LatchEntry) (orders : List Order) (has : Bool)
    : Type 0 where
  pub leads : LeadsTo (is_wanted entry) channel orders has

-- a connection after an order
abbrev pub connection_after_order : Order → Connection → Connection
connection_after_order order connection =
    if order.subscribe then connection_after_subscribe order.channel connection
    else connection_after_unsubscribe order.channel connection

-- Where a client hears a channel, all is told: no order of the channel waits, no acknowledgement of
-- an order to subscribe is on its way, and the connection has the channel.
abbrev pub is_order_on : ChannelOf → Order → Bool
is_order_on channel order = same_channel channel order.channel

pub record IsHeard (channel : ChannelOf) (orders : List Order) (has : Bool) (outbox : List Push)
    : Type 0 where
  pub ordered : count_of (is_order_on channel) orders ≡ 0
  pub acknowledged : acknowledgements_in_flight channel outbox ≡ 0
  pub subscribed : has ≡ true
