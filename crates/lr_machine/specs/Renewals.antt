-- That a watchdog's renewals are asked for in time: how long before the end of a hold its watch
-- falls due. After Redisson's watchdog, which renews a lock when a third of its lease has passed.
use Rattle.std.specs.Prelude.{◌≡◌, ℕ, ◌+◌, ◌-◌, ◌/◌, ◌≤◌, List, false, Option, Some, None, if◌then◌else◌}
use Rattle.std.specs.Option.{option_map}
use Rattle.lr_names.specs.Owner.{ThreadOfClient, same_owner}
use Rattle.lr_objects.specs.declared.access.Access.{Access}
use Rattle.lr_objects.specs.declared.access.Access.TheVariants as accesses
use Rattle.lr_model.specs.declared.hold.Hold.{Hold}
use Rattle.lr_model.specs.Answer.{Objects}
use Rattle.lr_model.specs.Hold.{live_hold}
use Rattle.lr_model.specs.ReadWrite.{ReadWriteLock, hold_of, live_holds}
use Rattle.lr_waiting.specs.declared.watch.Watch.{Watch}
use Rattle.lr_waiting.specs.declared.watch.WatchKey.{WatchKey}
use Rattle.lr_waiting.specs.declared.watch.WatchKind.{WatchKind}
use Rattle.lr_waiting.specs.declared.watch.WatchKind.TheVariants as watched
use Rattle.lr_machine.specs.Within.{IsClient}
use Rattle.lr_machine.specs.World.{World, state_of}

-- until when this owner's hold lasts, if there is one
abbrev pub own_until : ThreadOfClient → Option Hold → Option ℕ
own_until owner None = None
own_until owner (Some hold) =
    if same_owner hold.owner owner then Some hold.deadline else None

abbrev pub access_until : ThreadOfClient → Access → ReadWriteLock → Option ℕ
access_until owner access lock = option_map (λ hold. hold.deadline) (hold_of owner access lock)

-- and so of a lock of each kind, at a moment
abbrev pub kind_until : Objects → WatchKind → ThreadOfClient → List ℕ → ℕ → Option ℕ
kind_until objects watched.Lock owner name moment =
    own_until owner (live_hold moment (objects.mutexes name))
kind_until objects watched.Fair owner name moment =
    own_until owner (live_hold moment (objects.fair_locks name).held)
kind_until objects watched.Fenced owner name moment =
    own_until owner (live_hold moment (objects.fenced_locks name).held)
kind_until objects watched.Read owner name moment =
    access_until owner accesses.Read (live_holds moment (objects.read_write_locks name))
kind_until objects watched.Write owner name moment =
    access_until owner accesses.Write (live_holds moment (objects.read_write_locks name))

-- until when a watched hold lasts that is live
abbrev pub held_until : Objects → WatchKey → ℕ → Option ℕ
held_until objects key moment = kind_until objects key.kind key.owner key.name moment

-- how long before its end a hold falls due at the latest: two thirds of the lease, rounded up
abbrev pub slack : ℕ → ℕ
slack lease = lease - lease / 3

-- A hold that a client watches which isn't cut off, and that is live, falls due so long before its
-- end.
pub record RenewsInTime (world : World) : Type 0 where
  pub due : (c : ℕ) (key : WatchKey) (watch : Watch) (deadline : ℕ) → IsClient c
      → (world.clients c).session.is_cut ≡ false
      → (world.clients c).session.watchdog.watches key ≡ Some watch
      → held_until (state_of world).objects key world.moment ≡ Some deadline
      → watch.due + slack (world.clients c).session.watchdog.lease ≤ deadline
