-- When the watched holds fall due, as it stands by place.
use Rattle.std.proofs.Common.{◌≡◌, ◌≢◌, ◌≤◌, ◌<◌, ◌+◌, ℕ, Bool, true, false, nat_le, nat_lt, List, [], Option, Some, None, if◌then◌else◌, length, slice_get, slice_index, get_or, refl, sym, ap, subst, ◌∙◌, arith}
use Rattle.std.proofs.lemmas.Bool.{le-leb, leb-true}
use Rattle.std.proofs.lemmas.Bool.Decides.{nat_tests}
use Rattle.std.proofs.lemmas.Map.Entries.{lookup_from_place, place_from_lookup}
use Rattle.std.proofs.lemmas.Option.{get_or_from_slice_get, slice_get-get_or, slice_get_within}
use Rattle.std.specs.Map.{keys_of, lookup}
use Rattle.std.specs.List.{IsDistinct}
use Rattle.lr_expiry.specs.declared.limits.TheConstants.{NO_EXPIRY}
use Rattle.lr_limits.specs.Limits.{last_moment, longest_lease}
use Rattle.lr_waiting.specs.declared.watch.RenewFault.{RenewFault}
use Rattle.lr_waiting.specs.declared.watch.RenewFault.TheVariants.{NotDue}
use Rattle.lr_waiting.specs.declared.watch.Renewal.{Renewal}
use Rattle.lr_waiting.specs.declared.watch.Watch.{Watch}
use Rattle.lr_waiting.specs.declared.watch.WatchKey.{WatchKey}
use Rattle.lr_waiting.specs.declared.watch.WatchKind.TheVariants.{Lock}
use Rattle.lr_waiting.specs.contracts.watch.WatchKeyPartialEq.TheImpl.{ghosts}
use Rattle.lr_waiting.specs.Watchdog.{FallsDue, IsToRenew, Watchdog, renew_fault_with}
use Rattle.lr_watchdog.specs.declared.slot.Slot.{Slot}
use Rattle.lr_watchdog.specs.Value.{AreDue, AreSlots, WatchesValue, due_in, due_with, no_slot, slot_in, watchdog_of}
use Rattle.lr_watchdog.proofs.Rows.{found, slot_get}
use Rattle.lr_watchdog.proofs.SameWatch.{watch_keys_equiv}

-- Which holds are to be renewed at a moment: those that fall due until then.

pub record FallsDueBy (watchdog : Watchdog) (moment : ℕ) (key : WatchKey) : Type 0 where
  pub at : ℕ
  pub falls : FallsDue watchdog at key
  pub early : at ≤ moment

pub falls_due_by : (watchdog : Watchdog) (moment : ℕ) (key : WatchKey)
    → IsToRenew moment watchdog key → FallsDueBy watchdog moment key
falls_due_by watchdog moment key = by (watchdog.watches key) (watchdog.renewals key) refl refl
  where
    come : (watch : Watch) (b : Bool) → nat_le watch.due moment ≡ b
        → ◌≡◌ {A = Option RenewFault} (if b then None else
        Some (NotDue watch.due)) None
        → watch.due ≤ moment
    come watch true e none = leb-true watch.due moment e
    come watch false e none = absurd (cc none)

    by : (watch : Option Watch) (renewal : Option Renewal) → watchdog.watches key ≡ watch
        → watchdog.renewals key ≡ renewal → renew_fault_with moment watch renewal ≡ None
        → FallsDueBy watchdog moment key
    by None renewal watched idle none = absurd (cc none)
    by (Some watch) (Some renewal) watched idle none = absurd (cc none)
    by (Some watch) None watched idle none = record {
      at = watch.due;
      falls = record { watch = watch; watched = watched; idle = idle; due = refl };
      early = come watch (nat_le watch.due moment) refl none;
    }

pub to_renew : (watchdog : Watchdog) (moment at : ℕ) (key : WatchKey) → FallsDue watchdog at key
    → at ≤ moment → IsToRenew moment watchdog key
to_renew watchdog moment at key falls early =
    (λ i. renew_fault_with moment (falls.watched i) (falls.idle i))
    ∙ ap (λ (b : Bool). if b then None else
    Some (NotDue falls.watch.due))
    (le-leb falls.watch.due moment (subst (λ n. n ≤ moment) (sym falls.due) early))

module _ (value : WatchesValue) (due : List ℕ) (slots : AreSlots value.rows)
    (places : AreDue value.rows due) where
  -- no hold falls due later than is written down
  pub falls_near : (moment : ℕ) (key : WatchKey) → FallsDue (watchdog_of value) moment key
      → moment ≤ last_moment + longest_lease
  falls_near moment key falls =
      subst (λ n. n ≤ last_moment + longest_lease) falls.due
      ((slots.at key).watch falls.watch falls.watched)

  -- its due moment stands at its place
  pub falls_at_place : (moment : ℕ) (key : WatchKey) → FallsDue (watchdog_of value) moment key
      → (place : ℕ) × (place < length due) × (slice_index due place ≡ moment)
  falls_at_place moment key falls = by (lookup (ghosts.eq key) value.rows) refl
    where
      by : (o : Option Slot) → lookup (ghosts.eq key) value.rows ≡ o
          → (place : ℕ) × (place < length due) × (slice_index due place ≡ moment)
      by None none =
          let is = slot_get value.rows key ∙ ap found none in
          absurd (cc (falls.watched, ap (λ (s : Slot). s.watch) is))
      by (Some slot) some =
          let is : slot_in value.rows key ≡ slot = slot_get value.rows key ∙ ap found some in
          let place = place_from_lookup (ghosts.eq key) value.rows slot some in
          let within = slice_get_within value.rows place.0 (place.1, slot) place.2 in
          let row = get_or_from_slice_get value.rows place.0 (place.1, slot) (place.1, slot)
          place.2 in
          let stands : slice_index due place.0 ≡ due_in slot =
          places.each place.0 (place.1, slot) within
          ∙ ap (λ (x : WatchKey × Slot). due_in x.1) row in
          let own : due_in slot ≡ due_with (Some falls.watch) None =
          ap due_in (sym is) ∙ (λ i. due_with (falls.watched i) (falls.idle i)) in
          (place.0, omega (arith, within, places.room), stands ∙ own ∙ falls.due)

  module _ (unique : IsDistinct ghosts.eq (keys_of value.rows)) where
    -- what stands at the place of a hold is its due moment
    pub place_falls : (place : ℕ) (key : WatchKey) (slot : Slot)
        → slice_get value.rows place ≡ Some (key, slot) → slice_index due place ≢ NO_EXPIRY
        → FallsDue (watchdog_of value) (slice_index due place) key
    place_falls place key slot at some = by slot.watch slot.renewal refl refl
      where
        is : slot_in value.rows key ≡ slot
        is = slot_get value.rows key
            ∙ ap found (lookup_from_place watch_keys_equiv value.rows place key slot unique at)

        stands : slice_index due place ≡ due_in slot
        stands = places.each place (key, slot) (slice_get_within value.rows place (key, slot) at)
            ∙ ap (λ (x : WatchKey × Slot). due_in x.1)
            (get_or_from_slice_get value.rows place (key, slot) (key, slot) at)

        by : (watch : Option Watch) (renewal : Option Renewal) → slot.watch ≡ watch
            → slot.renewal ≡ renewal → FallsDue (watchdog_of value) (slice_index due place) key
        by None renewal w r =
            absurd (some (stands ∙ (λ i. due_with (w i) slot.renewal)))
        by (Some watch) (Some renewal) w r =
            absurd (some (stands ∙ (λ i. due_with (w i) (r i))))
        by (Some watch) None w r = record {
          watch = watch;
          watched = ap (λ (s : Slot). s.watch) is ∙ w;
          idle = ap (λ (s : Slot). s.renewal) is ∙ r;
          due = sym (stands ∙ (λ i. due_with (w i) (r i)));
        }

    -- a place with a due moment is that of a hold
    pub falls_from_place : (place : ℕ) → place < length due → slice_index due place ≢ NO_EXPIRY
        → (key : WatchKey) × FallsDue (watchdog_of value) (slice_index due place) key
    falls_from_place place within some = (
      (get_or value.rows place other).0,
      place_falls place _ _ (slice_get-get_or value.rows
          place other below) some,
    )
      where
        -- what is read past the rows
        other : WatchKey × Slot
        other = (
          record { owner = record { client = []; thread = 0 }; kind = Lock; name = [] },
          no_slot,
        )

        below : place < length value.rows
        below = by (nat_lt place (length value.rows)) refl
          where
            by : (b : Bool) → nat_lt place (length value.rows) ≡ b → place < length value.rows
            by true e = grind (arith, nat_tests, e)
            by false e =
                let past : length value.rows ≤ place = grind (arith, nat_tests, e) in
                absurd (some (places.rest place past within))
