-- The facts of the channels together: of latches and of a connection.
use Rattle.std.proofs.Common.{◌≡◌, ℕ, suc, ◌<◌, ◌^◌, List, ◌∷◌, Bool, false, Option, subst}
use Rattle.lr_names.specs.Channel.{ChannelOf}
use Rattle.lr_names.specs.declared.kind.Wakes.{Wakes}
use Rattle.lr_names.specs.declared.post.Post.{Post}
use Rattle.lr_names.specs.declared.post.Push.{Push}
use Rattle.lr_names.specs.declared.post.Push.TheVariants.{Subscribed, Unsubscribed, Message}
use Rattle.lr_waiting.specs.declared.latch.LatchEntry.{LatchEntry}
use Rattle.lr_waiting.specs.declared.latch.Order.{Order}
use Rattle.lr_model.specs.Board.{Connection, has_channel, is_overrun, closed_connection, connection_after_post}
use Rattle.lr_waiting.specs.Latch.{Latches, no_latches, register_at, leave_at, take_permit_at, acknowledge_at, deliver_at}
use Rattle.lr_wakeups.specs.Outstanding.{IsAccounted}
use Rattle.lr_wakeups.specs.Orders.{OrdersMatch, connection_after_order}
use Rattle.lr_wakeups.specs.Permits.{IsBounded}
use Rattle.lr_wakeups.proofs.ChannelFacts.{order_for, each_at_start, each_later, each_registers, each_leaves, each_takes_permit, each_hears_subscribed, each_hears_unsubscribed, each_hears_message, each_executes, each_posted}
use Rattle.lr_wakeups.proofs.Outstanding.{Fact as Accounting, accounted}
use Rattle.lr_wakeups.proofs.Orders.{Fact as Matching, matched}
use Rattle.lr_wakeups.proofs.Permits.{Fact as Bounding, bounded}

pub record LatchFacts (n : ℕ) (latches : Latches) (connection : Connection) : Type 0 where
  pub accounted : (channel : ChannelOf)
      → IsAccounted n channel (latches.entries channel) latches.orders connection.outbox
  pub matched : (channel : ChannelOf)
      → OrdersMatch channel (latches.entries channel) latches.orders
      (has_channel channel connection)
  pub bounded : (channel : ChannelOf) → IsBounded channel (latches.entries channel)

pub latch_facts_at_start : (n : ℕ) → LatchFacts n no_latches closed_connection
latch_facts_at_start n = record {
  accounted = each_at_start Accounting accounted n;
  matched = each_at_start Matching matched n;
  bounded = each_at_start Bounding bounded n;
}

module _ (n : ℕ) (latches : Latches) (connection : Connection)
    (facts : LatchFacts n latches connection) where
  pub latch_facts_later : LatchFacts (suc n) latches connection
  latch_facts_later = record {
    accounted = each_later Accounting accounted n latches connection facts.accounted;
    matched = each_later Matching matched n latches connection facts.matched;
    bounded = each_later Bounding bounded n latches connection facts.bounded;
  }

  pub latch_facts_registered : (channel : ChannelOf) → suc n < 2 ^ 64
      → LatchFacts (suc n) (register_at channel latches) connection
  latch_facts_registered channel few = record {
    accounted =
        each_registers Accounting accounted n latches connection facts.accounted channel few;
    matched = each_registers Matching matched n latches connection facts.matched channel few;
    bounded = each_registers Bounding bounded n latches connection facts.bounded channel few;
  }

  pub latch_facts_left : (channel : ChannelOf) → LatchFacts n (leave_at channel latches) connection
  latch_facts_left channel = record {
    accounted = each_leaves Accounting accounted n latches connection facts.accounted channel;
    matched = each_leaves Matching matched n latches connection facts.matched channel;
    bounded = each_leaves Bounding bounded n latches connection facts.bounded channel;
  }

  pub latch_facts_permit : (channel : ChannelOf)
      → LatchFacts n (take_permit_at channel latches) connection
  latch_facts_permit channel = record {
    accounted =
        each_takes_permit Accounting accounted n latches connection facts.accounted channel;
    matched = each_takes_permit Matching matched n latches connection facts.matched channel;
    bounded = each_takes_permit Bounding bounded n latches connection facts.bounded channel;
  }

  pub latch_facts_posted : (post : Post) → is_overrun post connection ≡ false
      → LatchFacts n latches (connection_after_post post connection)
  latch_facts_posted post room = record {
    accounted = each_posted Accounting accounted n latches connection post room facts.accounted;
    matched = each_posted Matching matched n latches connection post room facts.matched;
    bounded = facts.bounded;
  }

-- the server executes the oldest order
pub latch_facts_executed : (n : ℕ) (entries : ChannelOf → LatchEntry) (connection : Connection)
    (rest : List Order) (subscribe : Bool) (channel : ChannelOf)
    → LatchFacts n (record { entries = entries; orders = order_for subscribe channel ∷ rest })
    connection
    → LatchFacts n (record { entries = entries; orders = rest })
    (connection_after_order (order_for subscribe channel) connection)
latch_facts_executed n entries connection rest subscribe channel facts = record {
  accounted =
      each_executes Accounting accounted n entries connection rest subscribe channel facts.accounted;
  matched =
      each_executes Matching matched n entries connection rest subscribe channel facts.matched;
  bounded = facts.bounded;
}

-- the client takes the oldest item
module _ (n : ℕ) (latches : Latches) (connection : Connection) (rest : List Push)
    (facts : LatchFacts n latches connection) where
  -- with this item in front of the others
  accounted_with : (push : Push) → connection.outbox ≡ push ∷ rest → (channel : ChannelOf)
      → IsAccounted n channel (latches.entries channel) latches.orders (push ∷ rest)
  accounted_with push first channel =
      subst (IsAccounted n channel (latches.entries channel) latches.orders) first
      (facts.accounted channel)

  -- the connection without it
  abbrev without_item : Connection
  without_item = record connection { outbox = rest }

  pub latch_facts_acknowledged : (channel : ChannelOf) (count : ℕ) → n < 2 ^ 64
      → connection.outbox ≡ Subscribed channel count ∷ rest
      → LatchFacts n (acknowledge_at channel latches) (record connection { outbox = rest })
  latch_facts_acknowledged channel count few first = record {
    accounted =
        each_hears_subscribed Accounting accounted n latches (λ q. has_channel q connection) rest
        channel count few (accounted_with (Subscribed channel count) first);
    matched =
        each_hears_subscribed Matching matched n latches (λ q. has_channel q connection) rest
        channel count few facts.matched;
    bounded =
        each_hears_subscribed Bounding bounded n latches (λ q. has_channel q connection) rest
        channel count few facts.bounded;
  }

  pub latch_facts_unsubscribed : (channel : Option ChannelOf) (count : ℕ)
      → connection.outbox ≡ Unsubscribed channel count ∷ rest
      → LatchFacts n latches (record connection { outbox = rest })
  latch_facts_unsubscribed channel count first = record {
    accounted =
        each_hears_unsubscribed Accounting accounted n latches (λ q. has_channel q connection) rest
        channel count (accounted_with (Unsubscribed channel count) first);
    matched = facts.matched;
    bounded = facts.bounded;
  }

  pub latch_facts_delivered : (channel : ChannelOf) (wakes : Wakes)
      → connection.outbox ≡ Message channel wakes ∷ rest
      → LatchFacts n (deliver_at channel latches) (record connection { outbox = rest })
  latch_facts_delivered channel wakes first = record {
    accounted =
        each_hears_message Accounting accounted n latches (λ q. has_channel q connection) rest
        channel wakes (accounted_with (Message channel wakes) first);
    matched =
        each_hears_message Matching matched n latches (λ q. has_channel q connection) rest channel
        wakes facts.matched;
    bounded =
        each_hears_message Bounding bounded n latches (λ q. has_channel q connection) rest channel
        wakes facts.bounded;
  }
