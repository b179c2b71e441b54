-- What is so of those who were refused on a channel where a message wakes all, and whom no message
-- has reached since.
use Rattle.std.specs.Prelude.{◌≡◌, ℕ, ◌<◌, ◌≤◌, List, [], Bool, true, false, Option, Some, None}
use Rattle.std.specs.List.{AllByRecursion}
use Rattle.lr_limits.specs.Limits.{thread_limit}
use Rattle.lr_names.specs.Channel.{ChannelOf, channel_wakes}
use Rattle.lr_names.specs.Owner.{ThreadOfClient}
use Rattle.lr_names.specs.declared.kind.Kind.{Kind}
use Rattle.lr_names.specs.declared.kind.Kind.TheVariants.{Rw, Permits}
use Rattle.lr_names.specs.declared.kind.Wakes.TheVariants.{All}
use Rattle.lr_names.specs.declared.post.Push.{Push}
use Rattle.lr_objects.specs.Reply.{blocks}
use Rattle.lr_objects.specs.declared.kinds.Function.{Function}
use Rattle.lr_objects.specs.declared.kinds.Function.TheVariants as functions
use Rattle.lr_objects.specs.declared.reply.Reply.{Reply}
use Rattle.lr_objects.specs.declared.want.Want.{Want}
use Rattle.lr_waiting.specs.declared.latch.LatchEntry.{LatchEntry}
use Rattle.lr_waiting.specs.declared.stand.Stand.{Stand}
use Rattle.lr_waiting.specs.declared.stand.Stand.TheVariants as stands
use Rattle.lr_waiting.specs.declared.waiter.Stage.{Stage}
use Rattle.lr_waiting.specs.declared.waiter.Stage.TheVariants.{Asked, Refused, Asleep}
use Rattle.lr_waiting.specs.declared.waiter.Waiter.{Waiter}
use Rattle.lr_model.specs.Answer.{Objects}
use Rattle.lr_model.specs.Board.{Connection}
use Rattle.lr_model.specs.History.{State}
use Rattle.lr_model.specs.Permits.{PermitLease, live_leases}
use Rattle.lr_waiting.specs.Client.{Client, waiter_in}
use Rattle.lr_waiting.specs.Session.{channel_for, channel_in}
use Rattle.lr_waiting.specs.Stand.{in_flight, due_at, due_by_reply, is_refused, stand_of}
use Rattle.lr_wakeups.specs.Standing.{is_blocked_at}

-- The objects, the moment, and the peak of each channel's object. Of the owner of each channel:
-- when the place goes stale that its last try, unlock or leave left, and whether it was told since
-- its last try.
pub record Present : Type 0 where
  pub objects : Objects
  pub now : ℕ
  pub peak : ChannelOf → ℕ
  pub left : ChannelOf → Option ℕ
  pub told : ChannelOf → Bool

-- Of a read-write lock: the thread asks again by its peak.
abbrev pub IsDueBy : ℕ → Option ℕ → Type 0
IsDueBy peak None = ⊥
IsDueBy peak (Some due) = due ≤ peak

-- whether a moment comes before a thread asks again by itself
abbrev pub IsBefore : ℕ → Option ℕ → Type 0
IsBefore moment None = Unit {0}
IsBefore moment (Some due) = moment < due

-- the leases for which that is held which a request waits for: those of permits
abbrev pub leases_of : Objects → List ℕ → Function → List PermitLease
leases_of objects name (functions.Permits function) = (objects.permits name).leases
leases_of objects name _ = []

-- none of these leases ends before a thread asks again by itself
abbrev pub EndNoEarlier : Option ℕ → List PermitLease → Type 0
EndNoEarlier None leases = Unit {0}
EndNoEarlier (Some due) leases = AllByRecursion (λ lease. due ≤ lease.deadline) leases

-- Of the other kinds: at every moment from now on, until the thread asks again by itself, its
-- request would be refused, and no lease that is live ends earlier.
pub record IsRefusedUntil (objects : Objects) (now : ℕ) (owner : ThreadOfClient) (want : Want)
    (due : Option ℕ) : Type 0 where
  pub refused : (moment : ℕ) → now ≤ moment → IsBefore moment due
      → is_refused objects moment owner want ≡ true
  pub in_time : (moment : ℕ) → now ≤ moment → IsBefore moment due
      → EndNoEarlier due (live_leases moment (leases_of objects want.name want.function))

-- what is so of a request that was refused, until a message reaches it: a semaphore and a latch tell
-- no time
abbrev pub WaitsFor : Function → Present → ThreadOfClient → Want → Option ℕ → Type 0
WaitsFor (functions.ReadWrite function) present owner want due =
    IsDueBy (present.peak (channel_for owner want)) due
WaitsFor (functions.Permits function) present owner want due =
    IsRefusedUntil present.objects present.now owner want due
WaitsFor _ present owner want due =
    (due ≡ None) × IsRefusedUntil present.objects present.now owner want None

abbrev pub WaitsIn : Present → ThreadOfClient → Want → Option ℕ → Type 0
WaitsIn present owner want due = WaitsFor want.function present owner want due

-- how many messages had woken all when a call was sent
abbrev pub seen_at : Stage → ℕ
seen_at (Asked asking) = asking.seen
seen_at (Refused refusal) = refusal.seen
seen_at (Asleep refusal) = refusal.seen
seen_at _ = 0

-- A request that is registered has noted no message that is still to come. Where it was refused, no
-- message is on its way, and none has come since it asked, it waits so.
pub record IsReached (present : Present) (owner : ThreadOfClient) (channel : ChannelOf)
    (broadcast : ℕ) (flies : Bool) (reply : Option Reply) (waiter : Waiter) : Type 0 where
  pub noted : waiter.registered ≡ true → seen_at waiter.stage ≤ broadcast
  pub waits : waiter.registered ≡ true → channel_wakes channel.kind ≡ All
      → is_blocked_at waiter.stage reply waiter.want.function ≡ true → flies ≡ false
      → broadcast ≡ seen_at waiter.stage
      → WaitsIn present owner waiter.want (due_at waiter.stage reply)

abbrev pub ReachedWith : Present → List ℕ → (ChannelOf → LatchEntry) → List Push → ℕ
    → Option Reply → Option Waiter → Type 0
ReachedWith present id entries outbox thread reply None = Unit {0}
ReachedWith present id entries outbox thread reply (Some waiter) =
    let owner : ThreadOfClient = record { client = id; thread = thread } in
    let channel = channel_for owner waiter.want in
    IsReached present owner channel (entries channel).broadcast (in_flight channel outbox) reply
    waiter

-- this is so of a thread of a client
abbrev pub ReachedIn : Present → Client → Connection → ℕ → Type 0
ReachedIn present client connection thread =
    ReachedWith present client.session.client client.session.latches.entries connection.outbox
    thread (client.replies thread) (waiter_in client thread)

-- A reply that refuses a call, on a channel where a message wakes all, leaves it waiting so.
pub record IsLeftWaiting (present : Present) (owner : ThreadOfClient) (want : Want) (at : ℕ)
    (reply : Reply) : Type 0 where
  pub waits : channel_wakes (channel_for owner want).kind ≡ All
      → blocks reply want.function ≡ true
      → WaitsIn present owner want (due_by_reply at (Some reply))

-- Time passes, or the server does something: on each channel where it doesn't send a message no peak
-- falls, and who waits there so waits so afterwards.
pub record GoesOn (told : ChannelOf → Bool) (present then_ : Present) : Type 0 where
  pub peaks : (channel : ChannelOf) → told channel ≡ false
      → present.peak channel ≤ then_.peak channel
  pub waits : (owner : ThreadOfClient) (want : Want) (due : Option ℕ)
      → channel_wakes (channel_for owner want).kind ≡ All
      → told (channel_for owner want) ≡ false
      → WaitsIn present owner want due → WaitsIn then_ owner want due

-- By when a timer fires that is told: by the peak of a read-write lock, and by now where permits are
-- waited for. The others have none.
abbrev pub timer_bound : Kind → ℕ → ℕ → Option ℕ
timer_bound Rw peak now = Some peak
timer_bound Permits peak now = Some now
timer_bound _ peak now = None

-- what is told to stand: a timer isn't later than that, and it is never nothing
abbrev pub StandsBy : Option ℕ → Stand → Type 0
StandsBy (Some bound) (stands.Timer moment) = moment ≤ bound
StandsBy None (stands.Timer moment) = ⊥
StandsBy bound stands.Nobody = ⊥
StandsBy bound _ = Unit {0}

-- no wakeup is lost to a client: this is so of each of its threads that sleeps on a channel where a
-- message wakes all
abbrev pub NoLostBroadcast : Present → Client → Connection → Type 0
NoLostBroadcast present client connection =
    (state : State) (thread : ℕ) (waiter : Waiter) (stand : Stand)
    → state.objects ≡ present.objects
    → thread ≤ thread_limit → waiter_in client thread ≡ Some waiter
    → channel_wakes (channel_in client.session thread waiter).kind ≡ All
    → stand_of state present.now connection.outbox client thread ≡ Some stand
    → StandsBy
    (timer_bound (channel_in client.session thread waiter).kind
    (present.peak (channel_in client.session thread waiter)) present.now)
    stand
