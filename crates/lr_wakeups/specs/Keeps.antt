-- What it is for a step to keep all facts.
use Rattle.std.specs.Prelude.{◌≡◌, ℕ, suc, ◌<◌, ◌≤◌, ◌^◌, Bool, false, Option, Some, slice_get}
use Rattle.lr_limits.specs.Limits.{thread_limit}
use Rattle.lr_names.specs.declared.post.Post.{Post}
use Rattle.lr_names.specs.declared.post.Push.{Push}
use Rattle.lr_objects.specs.declared.reply.Reply.{Reply}
use Rattle.lr_waiting.specs.declared.latch.Order.{Order}
use Rattle.lr_waiting.specs.declared.waiter.Asking.{Asking}
use Rattle.lr_waiting.specs.declared.waiter.Waiter.{Waiter}
use Rattle.lr_waiting.specs.declared.watch.WatchKey.{WatchKey}
use Rattle.lr_names.specs.Channel.{ChannelOf}
use Rattle.lr_model.specs.Board.{same_channel, Connection, is_overrun, connection_after_post, connection_after_drain}
use Rattle.lr_waiting.specs.Latch.{first_order_of}
use Rattle.lr_waiting.specs.Watchdog.{Watchdog}
use Rattle.lr_waiting.specs.Session.{with_watchdog, owner_in, pushed, order_taken}
use Rattle.lr_waiting.specs.Client.{Client, waiter_in, with_reply, with_renewed, asked_of}
use Rattle.lr_wakeups.specs.Orders.{connection_after_order}
use Rattle.lr_wakeups.specs.Reached.{Present, GoesOn, IsLeftWaiting}
use Rattle.lr_wakeups.specs.Queued.{IsLeftQueued, QueueGoesOn, NobodyIsBlocked}
use Rattle.lr_wakeups.specs.Standing.{IsInTime}
use Rattle.lr_wakeups.specs.Facts.{Facts}

-- where a row of a client applies, all facts are so afterwards
abbrev pub KeepsFacts : (Client → Option Client) → Type 0
KeepsFacts row =
    (n : ℕ) (present : Present) (client after : Client) (connection : Connection)
    → Facts n present client connection → row client ≡ Some after → Facts n present after connection

-- the same of a row that may make one more order to subscribe
abbrev pub KeepsFactsByOrder : (Client → Option Client) → Type 0
KeepsFactsByOrder row =
    (n : ℕ) (present : Present) (client after : Client) (connection : Connection)
    → suc n < 2 ^ 64 → Facts n present client connection → row client ≡ Some after
    → Facts (suc n) present after connection

-- the same of a row of each thread
abbrev pub OfEachThread : (ℕ → Type 0) → Type 0
OfEachThread Law = (thread : ℕ) → thread ≤ thread_limit → Law thread

-- the server has executed the call of a thread, and its reply refuses it in time if at all
abbrev pub ReplyKeepsFacts : ℕ → Type 0
ReplyKeepsFacts thread =
    (n : ℕ) (present : Present) (client : Client) (connection : Connection)
    (asking : Asking) (reply : Reply)
    → Facts n present client connection → asked_of client thread ≡ Some asking
    → ((waiter : Waiter) → waiter_in client thread ≡ Some waiter
    → IsInTime present.peak client thread waiter asking reply)
    → ((waiter : Waiter) → waiter_in client thread ≡ Some waiter
    → IsLeftWaiting present (owner_in client.session thread) waiter.want asking.at reply)
    → ((waiter : Waiter) → waiter_in client thread ≡ Some waiter
    → IsLeftQueued present (owner_in client.session thread) waiter asking reply)
    → Facts n present (with_reply thread (Some reply) client) connection

-- a client with another watchdog, and with other replies to its renewals
abbrev pub renewing : Watchdog → (WatchKey → Option Reply) → Client → Client
renewing watchdog renewed client = record client {
  session = with_watchdog watchdog client.session;
  renewed = renewed;
}

-- no fact tells of these
abbrev pub RenewalsKeepFacts : Type 0
RenewalsKeepFacts =
    (n : ℕ) (present : Present) (client : Client) (connection : Connection)
    (watchdog : Watchdog) (renewed : WatchKey → Option Reply)
    → Facts n present client connection
    → Facts n present (renewing watchdog renewed client) connection

-- the server has executed a renewal
abbrev pub RenewedKeepsFacts : Type 0
RenewedKeepsFacts =
    (n : ℕ) (present : Present) (client : Client) (connection : Connection) (key : WatchKey)
    (reply : Reply)
    → Facts n present client connection
    → Facts n present (with_renewed key (Some reply) client) connection

-- the client takes the oldest item from its connection
abbrev pub PushKeepsFacts : Type 0
PushKeepsFacts =
    (n : ℕ) (present : Present) (client : Client) (connection : Connection) (push : Push)
    → suc n < 2 ^ 64 → Facts n present client connection
    → slice_get connection.outbox 0 ≡ Some push
    → Facts (suc n) present (record client { session = pushed push client.session })
    (connection_after_drain 1 connection)

-- the server executes the oldest order
abbrev pub OrderKeepsFacts : Type 0
OrderKeepsFacts =
    (n : ℕ) (present : Present) (client : Client) (connection : Connection) (order : Order)
    → Facts n present client connection → first_order_of client.session.latches ≡ Some order
    → Facts n present (record client { session = order_taken client.session })
    (connection_after_order order connection)

-- The server sends a message, and doesn't drop the connection. The peak of the message's channel may
-- be another then, and who waits there may wait no longer. On the other channels all goes on. Where
-- an owner made a call, on its own channel, nobody was refused.
abbrev pub PostKeepsFacts : Type 0
PostKeepsFacts =
    (n : ℕ) (present then_ : Present) (client : Client) (connection : Connection) (post : Post)
    (acts : ChannelOf → Bool)
    → is_overrun post connection ≡ false
    → GoesOn (λ channel. same_channel channel post.channel) present then_
    → QueueGoesOn (λ channel. same_channel channel post.channel) acts present then_
    → NobodyIsBlocked acts client
    → Facts n present client connection
    → Facts n then_ client (connection_after_post post connection)

-- time passes, or the server does something and sends no message
abbrev pub GoingOnKeepsFacts : Type 0
GoingOnKeepsFacts =
    (n : ℕ) (present then_ : Present) (client : Client) (connection : Connection)
    (acts : ChannelOf → Bool)
    → GoesOn (λ channel. false) present then_
    → QueueGoesOn (λ channel. false) acts present then_ → NobodyIsBlocked acts client
    → Facts n present client connection
    → Facts n then_ client connection
