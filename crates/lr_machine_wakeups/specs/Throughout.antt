-- That no wakeup is lost, after every event of every schedule.
use Rattle.std.specs.Prelude.{◌≡◌, ℕ, ◌<◌, ◌≤◌, ◌^◌, List, ◌++◌, length, true, Some}
use Rattle.std.specs.List.{AllByRecursion}
use Rattle.lr_limits.specs.Limits.{thread_limit}
use Rattle.lr_names.specs.Channel.{channel_wakes, is_fair}
use Rattle.lr_names.specs.declared.kind.Wakes.TheVariants.{All}
use Rattle.lr_waiting.specs.declared.stand.Stand.{Stand}
use Rattle.lr_waiting.specs.declared.waiter.Waiter.{Waiter}
use Rattle.lr_waiting.specs.Client.{waiter_in}
use Rattle.lr_waiting.specs.Queue.{stale_on}
use Rattle.lr_waiting.specs.Session.{channel_in}
use Rattle.lr_waiting.specs.Stand.{stand_of}
use Rattle.lr_wakeups.specs.Queued.{SleepsInQueue}
use Rattle.lr_wakeups.specs.Reached.{timer_bound, StandsBy}
use Rattle.lr_wakeups.specs.Standing.{wakes_one_of_many, StandsWithin}
use Rattle.lr_machine.specs.declared.event.Event.{Event}
use Rattle.lr_machine.specs.Within.{IsClient, IsWithin}
use Rattle.lr_machine.specs.World.{World, state_of, connection_of, first_world, world_after}
use Rattle.lr_machine_wakeups.specs.WorldFacts.{peak_of, present_of}

-- A thread that sleeps for a fair lock: its place in the queue goes stale later than it asks again
-- by itself, and is there until then; a message that was sent to it since it asked has not been
-- lost; and what is told to stand is never nothing, and comes before the place goes stale.
pub record IsInQueue (world : World) (c thread : ℕ) (waiter : Waiter) (stand : Stand)
    : Type 0 where
  pub sleeps : SleepsInQueue (present_of world) (world.clients c) (connection_of world c) thread
      waiter stand
  pub stays : world.moment < sleeps.place.stale
      → stale_on (channel_in (world.clients c).session thread waiter) (state_of world).objects
      ≡ Some sleeps.place.stale

-- What is told to stand for a thread that sleeps is never nothing. On a channel where a message
-- wakes one of many, a timer isn't later than the peak. Where a message wakes all, it isn't later
-- than the peak of a read-write lock, or than now where permits are waited for. Who sleeps for a
-- fair lock is in its queue.
pub record NoWakeupIsLost (world : World) : Type 0 where
  pub stands : (c thread : ℕ) (waiter : Waiter) (stand : Stand) → IsClient c
      → thread ≤ thread_limit → waiter_in (world.clients c) thread ≡ Some waiter
      → wakes_one_of_many (channel_in (world.clients c).session thread waiter).kind ≡ true
      → stand_of (state_of world) world.moment (connection_of world c).outbox (world.clients c)
      thread
      ≡ Some stand
      → StandsWithin (peak_of world (channel_in (world.clients c).session thread waiter)) stand
  pub reaches : (c thread : ℕ) (waiter : Waiter) (stand : Stand) → IsClient c
      → thread ≤ thread_limit → waiter_in (world.clients c) thread ≡ Some waiter
      → channel_wakes (channel_in (world.clients c).session thread waiter).kind ≡ All
      → stand_of (state_of world) world.moment (connection_of world c).outbox (world.clients c)
      thread
      ≡ Some stand
      → StandsBy
      (timer_bound (channel_in (world.clients c).session thread waiter).kind
      (peak_of world (channel_in (world.clients c).session thread waiter)) world.moment)
      stand
  pub queues : (c thread : ℕ) (waiter : Waiter) (stand : Stand) → IsClient c
      → thread ≤ thread_limit → waiter_in (world.clients c) thread ≡ Some waiter
      → is_fair (channel_in (world.clients c).session thread waiter).kind ≡ true
      → stand_of (state_of world) world.moment (connection_of world c).outbox (world.clients c)
      thread
      ≡ Some stand
      → IsInQueue world c thread waiter stand

-- what is so after each of these events, and before the first: of the number of events so far, and
-- of the world after them
abbrev pub Throughout : (ℕ → World → Type 0) → List Event → Type 0
Throughout Law events =
    (front later : List Event) → events ≡ front ++ later
    → Law (length front) (world_after first_world front)

-- what is so throughout every schedule within the limits, of fewer than 2^64 events
abbrev pub ThroughoutEverySchedule : (ℕ → World → Type 0) → Type 0
ThroughoutEverySchedule Law =
    (events : List Event) → AllByRecursion IsWithin events → length events < 2 ^ 64
    → Throughout Law events
