-- All facts of a client and of the connection by which it subscribes.
use Rattle.std.specs.Prelude.{ℕ, ◌≤◌}
use Rattle.lr_limits.specs.Limits.{thread_limit}
use Rattle.lr_names.specs.Channel.{ChannelOf}
use Rattle.lr_model.specs.Board.{Connection, has_channel}
use Rattle.lr_waiting.specs.Client.{Client}
use Rattle.lr_wakeups.specs.Outstanding.{IsAccounted}
use Rattle.lr_wakeups.specs.Orders.{OrdersMatch}
use Rattle.lr_wakeups.specs.Permits.{IsBounded}
use Rattle.lr_wakeups.specs.Registered.{IsCounted}
use Rattle.lr_wakeups.specs.Joining.{PlacedIn}
use Rattle.lr_wakeups.specs.Answered.{HasReplyIfAsked}
use Rattle.lr_wakeups.specs.Reached.{Present, ReachedIn}
use Rattle.lr_wakeups.specs.Queued.{QueuedIn}
use Rattle.lr_wakeups.specs.Standing.{IsCovered}

-- n is at least the number of orders to subscribe that were made on any channel, and of messages that
-- came there. Each channel has a peak: a moment by which the holders' leases of its lock have run
-- out. A client that was cut off has no threads, no latches and no connection, so it has the facts
-- too.
pub record Facts (n : ℕ) (present : Present) (client : Client) (connection : Connection)
    : Type 0 where
  pub accounted : (channel : ChannelOf)
      → IsAccounted n channel (client.session.latches.entries channel)
      client.session.latches.orders connection.outbox
  pub matched : (channel : ChannelOf)
      → OrdersMatch channel (client.session.latches.entries channel)
      client.session.latches.orders (has_channel channel connection)
  pub bounded : (channel : ChannelOf)
      → IsBounded channel (client.session.latches.entries channel)
  pub counted : (channel : ChannelOf) → IsCounted channel client
  pub placed : (thread : ℕ) → thread ≤ thread_limit → PlacedIn client thread
  pub answered : (thread : ℕ) → HasReplyIfAsked client thread
  pub covered : (channel : ChannelOf)
      → IsCovered (present.peak channel) channel client connection
  pub few : (channel : ChannelOf) → (client.session.latches.entries channel).broadcast ≤ n
  pub reached : (thread : ℕ) → thread ≤ thread_limit → ReachedIn present client connection thread
  pub queued : (thread : ℕ) → thread ≤ thread_limit → QueuedIn present client connection thread
