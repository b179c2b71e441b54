-- What contracts see of the watches of a client, and the watchdog of the definitions that they are.
use Rattle.std.specs.Prelude.{ℕ, ◌≡◌, ◌≤◌, ◌<◌, ◌+◌, ◌||◌, List, [], ◌∷◌, Bool, Option, Some, None, is_some, length, get_or, slice_index, if◌then◌else◌}
use Rattle.std.specs.Option.{ForSome}
use Rattle.lr_expiry.specs.declared.limits.TheConstants.{NO_EXPIRY}
use Rattle.lr_limits.specs.Limits.{last_moment, longest_lease}
use Rattle.lr_waiting.specs.declared.watch.Renewal.{Renewal}
use Rattle.lr_waiting.specs.declared.watch.Watch.{Watch}
use Rattle.lr_waiting.specs.declared.watch.WatchKey.{WatchKey}
use Rattle.lr_waiting.specs.Watchdog.{Watchdog, same_watch}
use Rattle.lr_watchdog.specs.declared.slot.Slot.{Slot}

-- the lease, the slots of the holds by their keys, and how many grants began a watch
pub record WatchesValue : Type 0 where
  pub lease : ℕ
  pub rows : List (WatchKey × Slot)
  pub generation : ℕ

-- of a hold that isn't watched, and for which no renewal was asked
abbrev pub no_slot : Slot
no_slot = record { watch = None; renewal = None }

-- whether there is anything to keep
abbrev pub is_kept : Slot → Bool
is_kept slot = is_some slot.watch || is_some slot.renewal

-- the slot of a hold
abbrev pub slot_in : List (WatchKey × Slot) → WatchKey → Slot
slot_in [] key = no_slot
slot_in (row ∷ rows) key = if same_watch key row.0 then row.1 else slot_in rows key

-- its watch
abbrev pub watch_in : List (WatchKey × Slot) → WatchKey → Option Watch
watch_in rows key = (slot_in rows key).watch

-- its renewal
abbrev pub renewal_in : List (WatchKey × Slot) → WatchKey → Option Renewal
renewal_in rows key = (slot_in rows key).renewal

-- the watchdog that they are
abbrev pub watchdog_of : WatchesValue → Watchdog
watchdog_of value = record {
  lease = value.lease;
  watches = watch_in value.rows;
  generation = value.generation;
  renewals = renewal_in value.rows;
}

-- when a renewal is to be asked for: never where the hold isn't watched, and while it is renewed
abbrev pub due_with : Option Watch → Option Renewal → ℕ
due_with None renewal = NO_EXPIRY
due_with (Some watch) None = watch.due
due_with (Some watch) (Some renewal) = NO_EXPIRY

abbrev pub due_in : Slot → ℕ
due_in slot = due_with slot.watch slot.renewal

-- at the place of each slot stands when it falls due, and behind the slots stands nothing
pub record AreDue (rows : List (WatchKey × Slot)) (due : List ℕ) : Type 0 where
  pub room : length rows ≤ length due
  pub each : (k : ℕ) (d : WatchKey × Slot) → k < length rows
      → slice_index due k ≡ due_in (get_or rows k d).1
  pub rest : (k : ℕ) → length rows ≤ k → k < length due → slice_index due k ≡ NO_EXPIRY

-- moments that a third of the lease can be added to, or was added to
pub record IsSlot (slot : Slot) : Type 0 where
  pub watch : ForSome slot.watch (λ watch. watch.due ≤ last_moment + longest_lease)
  pub renewal : ForSome slot.renewal (λ renewal. renewal.at ≤ last_moment)

-- the same of each hold
pub record AreSlots (rows : List (WatchKey × Slot)) : Type 0 where
  pub at : (key : WatchKey) → IsSlot (slot_in rows key)

-- the lease is one, and when each hold falls due is known by place
pub record IsWatches (lease : ℕ) (rows : List (WatchKey × Slot)) (due : List ℕ) : Type 0 where
  pub low : 3 ≤ lease
  pub high : lease ≤ longest_lease
  pub slots : AreSlots rows
  pub places : AreDue rows due
