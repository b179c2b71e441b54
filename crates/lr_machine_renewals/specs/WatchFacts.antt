-- What holds of the watchdogs of all clients after each event: by when their watches fall due, and
-- how long the holds last that they renew.
use Rattle.std.specs.Prelude.{◌≡◌, ◌⊎◌, ℕ, ◌+◌, ◌≤◌, List, Bool, true, false, Option, Some, None, is_some}
use Rattle.std.specs.Option.{option_map}
use Rattle.lr_limits.specs.Limits.{watchdog_lease}
use Rattle.lr_names.specs.Owner.{ThreadOfClient}
use Rattle.lr_objects.specs.Want.{op_of}
use Rattle.lr_objects.specs.declared.reply.Reply.{Reply}
use Rattle.lr_objects.specs.declared.reply.Reply.TheVariants.{Renewed}
use Rattle.lr_objects.specs.declared.want.Want.{Want}
use Rattle.lr_model.specs.Answer.{Objects}
use Rattle.lr_waiting.specs.declared.waiter.Asking.{Asking}
use Rattle.lr_waiting.specs.declared.waiter.Stage.{Stage}
use Rattle.lr_waiting.specs.declared.waiter.Stage.TheVariants.{Asked}
use Rattle.lr_waiting.specs.declared.waiter.Waiter.{Waiter}
use Rattle.lr_waiting.specs.declared.watch.Renewal.{Renewal}
use Rattle.lr_waiting.specs.declared.watch.Watch.{Watch}
use Rattle.lr_waiting.specs.declared.watch.WatchKey.{WatchKey}
use Rattle.lr_waiting.specs.Client.{Client}
use Rattle.lr_waiting.specs.Peak.{gives_deadline}
use Rattle.lr_waiting.specs.Session.{watch_key, watch_kind, leaving_function, leaving_want}
use Rattle.lr_waiting.specs.Watchdog.{due_from, is_of}
use Rattle.lr_machine.specs.Clients.{client_id}
use Rattle.lr_machine.specs.Renewals.{held_until, slack}
use Rattle.lr_machine.specs.Within.{IsClient}
use Rattle.lr_machine.specs.World.{World, state_of}

-- a hold that is live at a moment ends no sooner than then
abbrev pub LastsUntil : Objects → ℕ → WatchKey → ℕ → Type 0
LastsUntil objects moment key end =
    (deadline : ℕ) → held_until objects key moment ≡ Some deadline → end ≤ deadline

-- Watches.

-- A watch is of a hold of its client, and of one of the watched grants so far. It falls due within
-- a third of the lease from now, and its hold lasts for the other two thirds behind that.
pub record IsWatch (objects : Objects) (moment : ℕ) (id : List ℕ) (grants : ℕ) (key : WatchKey)
    (watch : Watch) : Type 0 where
  pub own : key.owner.client ≡ id
  pub grant : watch.generation ≤ grants
  pub soon : watch.due ≤ due_from moment watchdog_lease
  pub lasts : LastsUntil objects moment key (watch.due + slack watchdog_lease)

abbrev pub WatchedWith : Objects → ℕ → List ℕ → ℕ → WatchKey → Option Watch → Type 0
WatchedWith objects moment id grants key None = Unit {0}
WatchedWith objects moment id grants key (Some watch) =
    IsWatch objects moment id grants key watch

-- Renewals.

-- whether a renewal is of the grant that is watched now
abbrev pub is_current : Option Watch → Renewal → Bool
is_current None renewal = false
is_current (Some watch) renewal = is_of watch renewal

-- A renewal was asked for by now, for one of the watched grants so far. Once the server has renewed
-- the hold, and while it is watched with that grant, it lasts for the lease from the asking.
pub record IsRenewal (objects : Objects) (moment grants : ℕ) (key : WatchKey)
    (watch : Option Watch) (renewal : Renewal) (reply : Option Reply) : Type 0 where
  pub past : renewal.at ≤ moment
  pub grant : renewal.generation ≤ grants
  pub lasts : reply ≡ Some Renewed → is_current watch renewal ≡ true
      → LastsUntil objects moment key (renewal.at + watchdog_lease)

-- and a reply waits for none but such
abbrev pub RenewedWith : Objects → ℕ → ℕ → WatchKey → Option Watch → Option Renewal
    → Option Reply → Type 0
RenewedWith objects moment grants key watch None reply = reply ≡ None
RenewedWith objects moment grants key watch (Some renewal) reply =
    IsRenewal objects moment grants key watch renewal reply

-- Threads.

-- the hold that a want of an owner is about
abbrev pub key_for : ThreadOfClient → Want → Option WatchKey
key_for owner want = option_map (watch_key owner want.name) (watch_kind want.function)

-- whether a reply waits that gives a hold a new deadline
abbrev pub has_given : Option Reply → Bool
has_given None = false
has_given (Some reply) = gives_deadline reply

-- A call that was sent by now is of its request, or gives its place in a queue up. Where it is
-- noted as the watchdog's it has the watchdog's lease, and it is noted so where its hold is
-- watched. Once such a call has given the hold a deadline, the hold lasts for the lease from the
-- asking.
pub record IsSent (objects : Objects) (moment : ℕ) (watches : WatchKey → Option Watch)
    (owner : ThreadOfClient) (want : Want) (asking : Asking) (reply : Option Reply)
    : Type 0 where
  pub lease : ℕ
  pub queue : Bool
  pub op : (asking.op ≡ op_of want owner lease queue)
      ⊎ (asking.op
      ≡ op_of (leaving_want want (leaving_function want.function)) owner lease queue)
  pub past : asking.at ≤ moment
  pub under : asking.watched ≡ true → lease ≡ watchdog_lease
  pub noted : (key : WatchKey) → key_for owner want ≡ Some key
      → is_some (watches key) ≡ true → asking.watched ≡ true
  pub lasts : has_given reply ≡ true → asking.watched ≡ true → (key : WatchKey)
      → key_for owner want ≡ Some key
      → LastsUntil objects moment key (asking.at + watchdog_lease)

-- and a reply waits for none but such
abbrev pub SentAt : Objects → ℕ → (WatchKey → Option Watch) → ThreadOfClient → Want → Stage
    → Option Reply → Type 0
SentAt objects moment watches owner want (Asked asking) reply =
    IsSent objects moment watches owner want asking reply
SentAt objects moment watches owner want _ reply = reply ≡ None

abbrev pub SentWith : Objects → ℕ → (WatchKey → Option Watch) → ThreadOfClient → Option Waiter
    → Option Reply → Type 0
SentWith objects moment watches owner None reply = reply ≡ None
SentWith objects moment watches owner (Some waiter) reply =
    SentAt objects moment watches owner waiter.want waiter.stage reply

-- All of them.

-- The watches, the renewals and the calls of the client with this id are so. There were n watched
-- grants at most.
pub record AreWatched (n : ℕ) (objects : Objects) (moment : ℕ) (id : List ℕ) (client : Client)
    : Type 0 where
  pub own : client.session.client ≡ id
  pub lease : client.session.watchdog.lease ≡ watchdog_lease
  pub grants : client.session.watchdog.generation ≤ n
  pub watches : (key : WatchKey)
      → WatchedWith objects moment id client.session.watchdog.generation key
      (client.session.watchdog.watches key)
  pub renewals : (key : WatchKey)
      → RenewedWith objects moment client.session.watchdog.generation key
      (client.session.watchdog.watches key) (client.session.watchdog.renewals key)
      (client.renewed key)
  pub threads : (thread : ℕ)
      → SentWith objects moment client.session.watchdog.watches
      (record { client = id; thread = thread }) (client.session.waiters thread)
      (client.replies thread)

-- so it is of each client of a world
pub record HaveWatches (n : ℕ) (world : World) : Type 0 where
  pub each : (c : ℕ) → IsClient c
      → AreWatched n (state_of world).objects world.moment (client_id c) (world.clients c)
