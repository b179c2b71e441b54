-- What stands for those who were refused, on a channel where a message wakes one of many.
use Rattle.std.specs.Prelude.{◌≡◌, ℕ, ◌+◌, ◌<◌, ◌≤◌, Bool, true, false, ◌&&◌, Option, Some, None}
use Rattle.lr_limits.specs.Limits.{thread_limit}
use Rattle.lr_names.specs.Channel.{ChannelOf}
use Rattle.lr_names.specs.declared.kind.Kind.{Kind}
use Rattle.lr_names.specs.declared.kind.Kind.TheVariants.{Mutex, Fair, Rw, Fenced, Semaphore, Permits, Countdown}
use Rattle.lr_objects.specs.Reply.{blocks}
use Rattle.lr_objects.specs.declared.kinds.Function.{Function}
use Rattle.lr_objects.specs.declared.reply.Reply.{Reply}
use Rattle.lr_objects.specs.declared.reply.Reply.TheVariants.{Busy}
use Rattle.lr_waiting.specs.declared.stand.Stand.{Stand}
use Rattle.lr_waiting.specs.declared.stand.Stand.TheVariants as stands
use Rattle.lr_waiting.specs.declared.waiter.Asking.{Asking}
use Rattle.lr_waiting.specs.declared.waiter.Stage.{Stage}
use Rattle.lr_waiting.specs.declared.waiter.Stage.TheVariants.{Asked, Refused, Asleep}
use Rattle.lr_waiting.specs.declared.waiter.Waiter.{Waiter}
use Rattle.lr_model.specs.Board.{Connection}
use Rattle.lr_model.specs.History.{State}
use Rattle.lr_waiting.specs.Session.{channel_in}
use Rattle.lr_waiting.specs.Client.{Client, waiter_in}
use Rattle.lr_waiting.specs.Stand.{waits_at, in_flight, is_awake, due_of, stand_of}

-- whether a message wakes one of many: on the channel of a fair lock only its owner waits
abbrev pub wakes_one_of_many : Kind → Bool
wakes_one_of_many Mutex = true
wakes_one_of_many Fenced = true
wakes_one_of_many Fair = false
wakes_one_of_many Rw = false
wakes_one_of_many Semaphore = false
wakes_one_of_many Permits = false
wakes_one_of_many Countdown = false

-- whether a call was refused, and its thread hasn't been woken since: the reply waits for it, or it
-- looks next whether it is to sleep, or it sleeps
abbrev pub is_blocked_at : Stage → Option Reply → Function → Bool
is_blocked_at (Asked asking) (Some reply) function = blocks reply function
is_blocked_at (Refused refusal) reply function = true
is_blocked_at (Asleep refusal) reply function = true
is_blocked_at _ reply function = false

abbrev pub blocked_with : ChannelOf → Client → ℕ → Option Waiter → Bool
blocked_with channel client thread None = false
blocked_with channel client thread (Some waiter) =
    waits_at channel client thread waiter
    && is_blocked_at waiter.stage (client.replies thread) waiter.want.function

-- whether a thread that is registered at a channel was refused so
abbrev pub is_blocked : ChannelOf → Client → ℕ → Bool
is_blocked channel client thread = blocked_with channel client thread (waiter_in client thread)

-- A message of the channel is on its way; or there is a permit; or a thread that is registered there
-- is awake; or the timer of one that was refused isn't later than the peak.
pub data Stands (peak : ℕ) (channel : ChannelOf) (client : Client) (connection : Connection)
    : Type 0 where
  ByMessage : in_flight channel connection.outbox ≡ true → Stands peak channel client connection
  ByPermit : 0 < (client.session.latches.entries channel).permits
      → Stands peak channel client connection
  ByAwake : (thread : ℕ) → thread ≤ thread_limit → is_awake channel client thread ≡ true
      → Stands peak channel client connection
  ByTimer : (thread moment : ℕ) → thread ≤ thread_limit
      → due_of channel client thread ≡ Some moment → moment ≤ peak
      → Stands peak channel client connection

-- Where a thread was refused on the channel, and a message wakes one of many, something stands.
pub record IsCovered (peak : ℕ) (channel : ChannelOf) (client : Client) (connection : Connection)
    : Type 0 where
  pub stands : wakes_one_of_many channel.kind ≡ true → (thread : ℕ) → thread ≤ thread_limit
      → is_blocked channel client thread ≡ true → Stands peak channel client connection

-- A reply that refuses a call, on a channel where a message wakes one of many, tells how long to
-- wait, and the timer that this gives isn't later than the peak.
pub record IsInTime (peak : ChannelOf → ℕ) (client : Client) (thread : ℕ) (waiter : Waiter)
    (asking : Asking) (reply : Reply) : Type 0 where
  pub timer : wakes_one_of_many (channel_in client.session thread waiter).kind ≡ true
      → blocks reply waiter.want.function ≡ true
      → (millis : ℕ) × (reply ≡ Busy millis)
      × (asking.at + millis ≤ peak (channel_in client.session thread waiter))

-- what is told to stand: a timer isn't later than the peak, and it is never nothing
abbrev pub StandsWithin : ℕ → Stand → Type 0
StandsWithin peak (stands.Timer moment) = moment ≤ peak
StandsWithin peak stands.Nobody = ⊥
StandsWithin peak _ = Unit {0}

-- no wakeup is lost to a client: this is so of each of its threads that sleeps on a channel where a
-- message wakes one of many
abbrev pub NoLostWakeup : (ChannelOf → ℕ) → Client → Connection → Type 0
NoLostWakeup peak client connection =
    (state : State) (now thread : ℕ) (waiter : Waiter) (stand : Stand)
    → thread ≤ thread_limit → waiter_in client thread ≡ Some waiter
    → wakes_one_of_many (channel_in client.session thread waiter).kind ≡ true
    → stand_of state now connection.outbox client thread ≡ Some stand
    → StandsWithin (peak (channel_in client.session thread waiter)) stand
