-- What holds of all clients of a world: the facts of each, and what the calls that were sent are.
use Rattle.std.specs.Prelude.{◌≡◌, ◌⊎◌, ℕ, ◌<◌, ◌≤◌, List, Bool, true, false, not, ◌&&◌, Option, Some, None, is_some}
use Rattle.lr_names.specs.Channel.{ChannelOf, is_fair}
use Rattle.lr_names.specs.Owner.{ThreadOfClient}
use Rattle.lr_objects.specs.Want.{op_of}
use Rattle.lr_objects.specs.declared.want.Mode.{Mode}
use Rattle.lr_objects.specs.declared.want.Want.{Want}
use Rattle.lr_waiting.specs.declared.waiter.Asking.{Asking}
use Rattle.lr_waiting.specs.declared.waiter.Stage.{Stage}
use Rattle.lr_waiting.specs.declared.waiter.Stage.TheVariants.{Asked}
use Rattle.lr_waiting.specs.declared.waiter.Waiter.{Waiter}
use Rattle.lr_waiting.specs.Peak.{peak_after}
use Rattle.lr_waiting.specs.Queue.{stale_on, place_after, told_after}
use Rattle.lr_waiting.specs.Session.{Session, may_wait, leaving_function, leaving_want}
use Rattle.lr_wakeups.specs.Facts.{Facts}
use Rattle.lr_wakeups.specs.Reached.{Present}
use Rattle.lr_machine.specs.Clients.{client_id}
use Rattle.lr_machine.specs.Within.{IsClient}
use Rattle.lr_machine.specs.World.{World, first_state, state_of, connection_of}

-- whether all who wait for an object share a channel: that of a fair lock is an owner's alone
abbrev pub is_shared : ChannelOf → Bool
is_shared channel = not (is_some channel.owner) && not (is_fair channel.kind)

-- the peak of a channel that is shared: nobody waits by the peak of another
abbrev pub peak_for : Bool → ℕ → ℕ
peak_for true peak = peak
peak_for false peak = 0

-- the peak of a channel's object, as the history of a world tells it
abbrev pub peak_of : World → ChannelOf → ℕ
peak_of world channel =
    peak_for (is_shared channel)
    (peak_after channel.kind channel.name first_state world.entries 0)

-- when the place goes stale that the last try, unlock or leave of a channel's owner left, as that
-- history tells it
abbrev pub left_of : World → ChannelOf → Option ℕ
left_of world channel = place_after channel first_state world.entries None

-- and whether the owner was told since its last try
abbrev pub told_of : World → ChannelOf → Bool
told_of world channel = told_after channel first_state world.entries false

-- its objects, its moment, its peaks, and of the owner of each channel the place and whether it was
-- told
abbrev pub present_of : World → Present
present_of world = record {
  objects = (state_of world).objects;
  now = world.moment;
  peak = peak_of world;
  left = left_of world;
  told = told_of world;
}

-- A call that was sent is of its request, or gives its place in a queue up. Its thread made it, and
-- no later than now.
pub record IsAsked (moment : ℕ) (owner : ThreadOfClient) (mode : Mode) (want : Want)
    (asking : Asking) : Type 0 where
  pub lease : ℕ
  pub op : (asking.op ≡ op_of want owner lease (may_wait mode))
      ⊎ (asking.op
      ≡ op_of (leaving_want want (leaving_function want.function)) owner lease (may_wait mode))
  pub past : asking.at ≤ moment

abbrev pub AskedAt : ℕ → ThreadOfClient → Mode → Want → Stage → Type 0
AskedAt moment owner mode want (Asked asking) = IsAsked moment owner mode want asking
AskedAt moment owner mode want _ = Unit {0}

-- and a request that is registered is one that may wait
pub record IsMade (moment : ℕ) (owner : ThreadOfClient) (waiter : Waiter) : Type 0 where
  pub asked : AskedAt moment owner waiter.mode waiter.want waiter.stage
  pub waits : waiter.registered ≡ true → may_wait waiter.mode ≡ true

abbrev pub AskedWith : ℕ → ThreadOfClient → Option Waiter → Type 0
AskedWith moment owner None = Unit {0}
AskedWith moment owner (Some waiter) = IsMade moment owner waiter

-- each request of the client with this id is so
pub record AreAsked (moment : ℕ) (id : List ℕ) (session : Session) : Type 0 where
  pub own : session.client ≡ id
  pub each : (thread : ℕ)
      → AskedWith moment (record { client = id; thread = thread }) (session.waiters thread)

-- A place that the last try, unlock or leave of a channel's owner left is in the queue as long as it
-- isn't stale: no other takes it, and no renewal does.
abbrev pub PlaceStays : World → ChannelOf → Type 0
PlaceStays world channel =
    (owner : ThreadOfClient) (stale : ℕ) → is_fair channel.kind ≡ true
    → channel.owner ≡ Some owner → left_of world channel ≡ Some stale → world.moment < stale
    → stale_on channel (state_of world).objects ≡ Some stale

-- The facts of each client, where it may have made n orders to subscribe on a channel, and n
-- messages may have come there. They are so of one that was cut off too: it has no threads that
-- wait, and its connection is closed.
pub record HaveFacts (n : ℕ) (world : World) : Type 0 where
  pub facts : (c : ℕ) → IsClient c
      → Facts n (present_of world) (world.clients c) (connection_of world c)
  pub asked : (c : ℕ) → AreAsked world.moment (client_id c) (world.clients c).session
  pub places : (channel : ChannelOf) → PlaceStays world channel
