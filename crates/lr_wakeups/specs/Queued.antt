-- What is so of those who were refused a fair lock: each has a place in the queue for longer than
-- it sleeps, and a message that was sent to it since it asked has not been lost. This project's
-- own.
use Rattle.std.specs.Prelude.{◌≡◌, ◌⊎◌, ℕ, ◌+◌, ◌<◌, ◌≤◌, List, Bool, true, false, Option, Some, None}
use Rattle.lr_limits.specs.Limits.{thread_limit}
use Rattle.lr_names.specs.Channel.{ChannelOf, is_fair}
use Rattle.lr_names.specs.Owner.{ThreadOfClient}
use Rattle.lr_names.specs.declared.post.Push.{Push}
use Rattle.lr_objects.specs.Reply.{blocks}
use Rattle.lr_objects.specs.declared.reply.Reply.{Reply}
use Rattle.lr_waiting.specs.declared.latch.LatchEntry.{LatchEntry}
use Rattle.lr_waiting.specs.declared.stand.Stand.{Stand}
use Rattle.lr_waiting.specs.declared.stand.Stand.TheVariants as stands
use Rattle.lr_waiting.specs.declared.waiter.Asking.{Asking}
use Rattle.lr_waiting.specs.declared.waiter.Waiter.{Waiter}
use Rattle.lr_model.specs.Board.{Connection}
use Rattle.lr_model.specs.Fair.{place_wait}
use Rattle.lr_model.specs.History.{State}
use Rattle.lr_waiting.specs.Client.{Client, waiter_in}
use Rattle.lr_waiting.specs.Session.{channel_for, channel_in}
use Rattle.lr_waiting.specs.Stand.{in_flight, due_at, due_by_reply, stand_of}
use Rattle.lr_wakeups.specs.Joining.{is_queue_leave, gives_up_at}
use Rattle.lr_wakeups.specs.Reached.{Present}
use Rattle.lr_wakeups.specs.Standing.{is_blocked_at, is_blocked}

-- A place that an owner's last try, unlock or leave left, and the moment at which the owner asks
-- again by itself: the place goes stale later than that, by as long as the next in the queue waits
-- for it.
pub record HasPlace (left due : Option ℕ) : Type 0 where
  pub stale : ℕ
  pub moment : ℕ
  pub kept : left ≡ Some stale
  pub asks : due ≡ Some moment
  pub lasts : moment + place_wait ≤ stale

-- A request that is registered and was refused has such a place. Where it was told since it asked,
-- that message is on its way, or there is its permit. A call that gives a place up isn't refused.
pub record IsQueued (present : Present) (channel : ChannelOf) (flies : Bool) (permits : ℕ)
    (reply : Option Reply) (waiter : Waiter) : Type 0 where
  pub place : waiter.registered ≡ true → is_fair channel.kind ≡ true
      → is_blocked_at waiter.stage reply waiter.want.function ≡ true
      → HasPlace (present.left channel) (due_at waiter.stage reply)
  pub told : waiter.registered ≡ true → is_fair channel.kind ≡ true
      → is_blocked_at waiter.stage reply waiter.want.function ≡ true
      → present.told channel ≡ true → (flies ≡ true) ⊎ (0 < permits)
  pub ends : gives_up_at waiter.stage waiter.want.function ≡ true
      → is_blocked_at waiter.stage reply waiter.want.function ≡ false

abbrev pub QueuedWith : Present → List ℕ → (ChannelOf → LatchEntry) → List Push → ℕ
    → Option Reply → Option Waiter → Type 0
QueuedWith present id entries outbox thread reply None = Unit {0}
QueuedWith present id entries outbox thread reply (Some waiter) =
    let owner : ThreadOfClient = record { client = id; thread = thread } in
    let channel = channel_for owner waiter.want in
    IsQueued present channel (in_flight channel outbox) (entries channel).permits reply waiter

-- this is so of a thread of a client
abbrev pub QueuedIn : Present → Client → Connection → ℕ → Type 0
QueuedIn present client connection thread =
    QueuedWith present client.session.client client.session.latches.entries connection.outbox
    thread (client.replies thread) (waiter_in client thread)

-- A reply that refuses the call of a request that is registered, to a fair lock, leaves it such a
-- place, and nobody told it since. A call that gives a place up isn't refused.
pub record IsLeftQueued (present : Present) (owner : ThreadOfClient) (waiter : Waiter)
    (asking : Asking) (reply : Reply) : Type 0 where
  pub place : waiter.registered ≡ true → is_fair (channel_for owner waiter.want).kind ≡ true
      → blocks reply waiter.want.function ≡ true
      → HasPlace (present.left (channel_for owner waiter.want))
      (due_by_reply asking.at (Some reply))
  pub untold : waiter.registered ≡ true → is_fair (channel_for owner waiter.want).kind ≡ true
      → blocks reply waiter.want.function ≡ true
      → present.told (channel_for owner waiter.want) ≡ false
  pub ends : is_queue_leave asking.op.call ≡ true → blocks reply waiter.want.function ≡ false

-- Time passes, or the server does something. Only on a channel to which it sends a message somebody
-- is told who wasn't. Only on the channel of an owner who made a call another place may be left.
pub record QueueGoesOn (told acts : ChannelOf → Bool) (present then_ : Present) : Type 0 where
  pub untold : (channel : ChannelOf) → told channel ≡ false
      → then_.told channel ≡ true → present.told channel ≡ true
  pub places : (channel : ChannelOf) → acts channel ≡ false
      → then_.left channel ≡ present.left channel

-- no thread of a client was refused on these channels: the owner of one, who makes a call, wasn't
abbrev pub NobodyIsBlocked : (ChannelOf → Bool) → Client → Type 0
NobodyIsBlocked acts client =
    (channel : ChannelOf) (thread : ℕ) → acts channel ≡ true → thread ≤ thread_limit
    → is_blocked channel client thread ≡ false

-- what is told to stand for who has a place: never nothing, and no timer that is too late for it
abbrev pub StandsBefore : ℕ → Stand → Type 0
StandsBefore stale (stands.Timer moment) = moment + place_wait ≤ stale
StandsBefore stale stands.Nobody = ⊥
StandsBefore stale _ = Unit {0}

-- A thread that sleeps for a fair lock: its place goes stale later than it asks again by itself, a
-- message that was sent to it since it asked has not been lost, and what stands comes before the
-- place goes stale.
pub record SleepsInQueue (present : Present) (client : Client) (connection : Connection)
    (thread : ℕ) (waiter : Waiter) (stand : Stand) : Type 0 where
  pub place : HasPlace (present.left (channel_in client.session thread waiter))
      (due_at waiter.stage (client.replies thread))
  pub told : present.told (channel_in client.session thread waiter) ≡ true
      → (in_flight (channel_in client.session thread waiter) connection.outbox ≡ true)
      ⊎ (0 < (client.session.latches.entries (channel_in client.session thread waiter)).permits)
  pub stands : StandsBefore place.stale stand

-- no wakeup is lost to a client: this is so of each of its threads that sleeps for a fair lock
abbrev pub NoLostTurn : Present → Client → Connection → Type 0
NoLostTurn present client connection =
    (state : State) (now thread : ℕ) (waiter : Waiter) (stand : Stand)
    → thread ≤ thread_limit → waiter_in client thread ≡ Some waiter
    → is_fair (channel_in client.session thread waiter).kind ≡ true
    → stand_of state now connection.outbox client thread ≡ Some stand
    → SleepsInQueue present client connection thread waiter stand
