-- The watchdog after a change of a slot.
use Rattle.std.proofs.Common.{◌≡◌, ◌≤◌, ◌+◌, ℕ, Bool, true, false, List, Option, Some, None, if◌then◌else◌, ap, sym, subst, ◌∙◌, arith}
use Rattle.std.specs.Option.{ForSome}
use Rattle.lr_limits.specs.Limits.{last_moment, longest_lease}
use Rattle.lr_model.specs.Table.{put}
use Rattle.lr_waiting.specs.declared.watch.Renewal.{Renewal}
use Rattle.lr_waiting.specs.declared.watch.Watch.{Watch}
use Rattle.lr_waiting.specs.declared.watch.WatchKey.{WatchKey}
use Rattle.lr_waiting.specs.Latch.{next_count}
use Rattle.lr_waiting.specs.Watchdog.{due_from, is_of, renewal_asked, renewal_ended, renewal_noted, renewal_taken, same_watch, watch_after, watch_dropped, watch_granted, watch_renewed}
use Rattle.lr_watchdog.specs.declared.slot.Slot.{Slot}
use Rattle.lr_watchdog.specs.Value.{AreDue, IsSlot, IsWatches, WatchesValue, renewal_in, slot_in, watch_in, watchdog_of}
use Rattle.lr_watchdog.proofs.Rows.{part_put, put_own, valid-put}

-- what the fields of a watchdog show
abbrev pub shown : ℕ → List (WatchKey × Slot) → ℕ → WatchesValue
shown lease rows generation = record { lease = lease; rows = rows; generation = generation }

module _ (lease generation after : ℕ) (old new : List (WatchKey × Slot)) (key : WatchKey)
    (slot : Slot) (is : slot_in new ≡ put same_watch (slot_in old) key slot) where
  watches_put : watch_in new ≡ put same_watch (watch_in old) key slot.watch
  watches_put = (λ i q. (is i q).watch)
      ∙ part_put (λ (s : Slot). s.watch) (slot_in old) key slot

  renewals_put : renewal_in new ≡ put same_watch (renewal_in old) key slot.renewal
  renewals_put = (λ i q. (is i q).renewal)
      ∙ part_put (λ (s : Slot). s.renewal) (slot_in old) key slot

  -- the watchdog with the slot at the hold
  watchdog_put : watchdog_of (shown lease new after) ≡ record (watchdog_of (shown lease old after)) {
    watches = put same_watch (watch_in old) key slot.watch;
    renewals = put same_watch (renewal_in old) key slot.renewal;
  }
  watchdog_put = λ i. record {
    lease = lease;
    watches = watches_put i;
    generation = after;
    renewals = renewals_put i;
  }

  renewals_stay : slot.renewal ≡ renewal_in old key
      → put same_watch (renewal_in old) key slot.renewal ≡ renewal_in old
  renewals_stay own = ap (put same_watch (renewal_in old) key) own ∙ put_own (renewal_in old) key

  watches_stay : slot.watch ≡ watch_in old key
      → put same_watch (watch_in old) key slot.watch ≡ watch_in old
  watches_stay own = ap (put same_watch (watch_in old) key) own ∙ put_own (watch_in old) key

  pub granted_put : (at : ℕ) (watch : Watch) → slot.watch ≡ Some watch
      → slot.renewal ≡ renewal_in old key → watch.due ≡ due_from at lease
      → watch.generation ≡ after → after ≡ next_count generation
      → watchdog_of (shown lease new after)
      ≡ watch_granted at key (watchdog_of (shown lease old generation))
  granted_put at watch some own due number next =
      let one : ◌≡◌ {A = Watch} watch
      (record { due = due_from at lease; generation = next_count generation }) =
      λ i. record { due = due i; generation = (number ∙ next) i } in
      let watches : put same_watch (watch_in old) key slot.watch ≡ put same_watch (watch_in old) key
      (Some (record { due = due_from at lease; generation = next_count generation })) =
      ap (put same_watch (watch_in old) key) (some ∙ ap Some one) in
      let renewals = renewals_stay own in
      watchdog_put ∙ λ i. record {
        lease = lease;
        watches = watches i;
        generation = next i;
        renewals = renewals i;
      }

  pub dropped_put : slot.watch ≡ None → slot.renewal ≡ renewal_in old key
      → watchdog_of (shown lease new after) ≡ watch_dropped key (watchdog_of (shown lease old after))
  dropped_put none own =
      let watches : put same_watch (watch_in old) key slot.watch
      ≡ put same_watch (watch_in old) key None = ap (put same_watch (watch_in old) key) none in
      let renewals = renewals_stay own in
      watchdog_put ∙ λ i. record {
        lease = lease;
        watches = watches i;
        generation = after;
        renewals = renewals i;
      }

  pub asked_put : (moment : ℕ) (watch : Watch) → watch_in old key ≡ Some watch
      → slot.watch ≡ Some watch
      → slot.renewal ≡ Some (record { generation = watch.generation; at = moment })
      → watchdog_of (shown lease new after)
      ≡ renewal_asked moment key (watchdog_of (shown lease old after))
  asked_put moment watch there own noted =
      let before = watchdog_of (shown lease old after) in
      let renewals : put same_watch (renewal_in old) key slot.renewal
      ≡ put same_watch (renewal_in old) key
      (Some (record { generation = watch.generation; at = moment })) =
      ap (put same_watch (renewal_in old) key) noted in
      let watches = watches_stay (own ∙ sym there) in
      let asked : renewal_asked moment key before
      ≡ renewal_noted moment key (Some watch) before =
      ap (λ (o : Option Watch). renewal_noted moment key o before) there in
      (watchdog_put ∙ λ i. record {
        lease = lease;
        watches = watches i;
        generation = after;
        renewals = renewals i;
      }) ∙ sym asked

  pub taken_put : (renewed : Bool) (renewal : Renewal) → renewal_in old key ≡ Some renewal
      → slot.watch ≡ watch_after renewed lease (watch_in old key) renewal → slot.renewal ≡ None
      → watchdog_of (shown lease new after)
      ≡ renewal_taken renewed key (watchdog_of (shown lease old after))
  taken_put renewed renewal there ends none =
      let before = watchdog_of (shown lease old after) in
      let watches : put same_watch (watch_in old) key slot.watch ≡ put same_watch (watch_in old) key
      (watch_after renewed lease (watch_in old key) renewal) =
      ap (put same_watch (watch_in old) key) ends in
      let renewals : put same_watch (renewal_in old) key slot.renewal
      ≡ put same_watch (renewal_in old) key None = ap (put same_watch (renewal_in old) key) none in
      let taken : renewal_taken renewed key before
      ≡ renewal_ended renewed key (Some renewal) before =
      ap (λ (o : Option Renewal). renewal_ended renewed key o before) there in
      (watchdog_put ∙ λ i. record {
        lease = lease;
        watches = watches i;
        generation = after;
        renewals = renewals i;
      }) ∙ sym taken

-- the invariant after such a change
pub IsWatches-put : (lease : ℕ) (old new : List (WatchKey × Slot)) (due after : List ℕ)
    (key : WatchKey) (slot : Slot) → IsWatches lease old due
    → slot_in new ≡ put same_watch (slot_in old) key slot → AreDue new after → IsSlot slot
    → IsWatches lease new after
IsWatches-put lease old new due after key slot h is places valid = record {
  low = h.low;
  high = h.high;
  slots = valid-put key slot old new is valid h.slots;
  places = places;
}

-- what the invariant says of the slot of a hold
pub slot_valid : (lease : ℕ) (rows : List (WatchKey × Slot)) (due : List ℕ) (key : WatchKey)
    (slot : Slot) → IsWatches lease rows due → slot ≡ slot_in rows key → IsSlot slot
slot_valid lease rows due key slot h is = subst IsSlot (sym is) (h.slots.at key)

-- a watch falls due at most a third of the lease after its grant or its renewal
due_within : (at lease : ℕ) → at ≤ last_moment → lease ≤ longest_lease
    → due_from at lease ≤ last_moment + longest_lease
due_within at lease early short = omega arith

pub granted_valid : (at lease : ℕ) (watch : Watch) (renewal : Option Renewal)
    → at ≤ last_moment → lease ≤ longest_lease → watch.due ≡ due_from at lease
    → ForSome renewal (λ r. r.at ≤ last_moment)
    → IsSlot (record { watch = Some watch; renewal = renewal })
granted_valid at lease watch renewal early short due before = record {
  watch = λ w some.
      let one : watch ≡ w = cc some in
      subst (λ (x : Watch). x.due ≤ last_moment + longest_lease) one
      (subst (λ n. n ≤ last_moment + longest_lease) (sym due) (due_within at lease early short));
  renewal = before;
}

pub dropped_valid : (renewal : Option Renewal) → ForSome renewal (λ r. r.at ≤ last_moment)
    → IsSlot (record { watch = None; renewal = renewal })
dropped_valid renewal before = record {
  watch = λ w some. absurd (cc some);
  renewal = before;
}

pub asked_valid : (moment : ℕ) (watch : Watch) → moment ≤ last_moment
    → watch.due ≤ last_moment + longest_lease
    → IsSlot (record {
      watch = Some watch;
      renewal = Some (record { generation = watch.generation; at = moment });
    })
asked_valid moment watch early before = record {
  watch = λ w some.
      let one : watch ≡ w = cc some in
      subst (λ (x : Watch). x.due ≤ last_moment + longest_lease) one before;
  renewal = λ r some.
      let one : ◌≡◌ {A = Renewal} (record { generation = watch.generation; at = moment }) r =
      cc some in
      subst (λ (x : Renewal). x.at ≤ last_moment) one early;
}

pub taken_valid : (renewed : Bool) (lease : ℕ) (watch after : Option Watch) (renewal : Renewal)
    → renewal.at ≤ last_moment → lease ≤ longest_lease
    → ForSome watch (λ w. w.due ≤ last_moment + longest_lease)
    → after ≡ watch_after renewed lease watch renewal
    → IsSlot (record { watch = after; renewal = None })
taken_valid renewed lease watch after renewal early short before is = record {
  watch = subst (λ (o : Option Watch). ForSome o (λ w. w.due ≤ last_moment + longest_lease))
      (sym is) (by watch before);
  renewal = λ r some. absurd (cc some);
}
  where
    by_renewed : (b : Bool) (w : Watch) → ForSome
        (watch_renewed b lease w renewal)
        (λ x. x.due ≤ last_moment + longest_lease)
    by_renewed true w = λ x some.
        let one : ◌≡◌ {A = Watch}
        (record { due = due_from renewal.at lease; generation = w.generation }) x = cc some in
        subst (λ (y : Watch). y.due ≤ last_moment + longest_lease) one
        (due_within renewal.at lease early short)
    by_renewed false w = λ x some. absurd (cc some)

    by_kept : (b : Bool) (w : Watch) → ForSome (Some w) (λ x. x.due ≤ last_moment + longest_lease)
        → ForSome (if b then
        watch_renewed renewed lease w renewal
        else Some w) (λ x. x.due ≤ last_moment + longest_lease)
    by_kept true w kept = by_renewed renewed w
    by_kept false w kept = kept

    by : (o : Option Watch) → ForSome o (λ w. w.due ≤ last_moment + longest_lease)
        → ForSome (watch_after renewed lease o renewal)
        (λ w. w.due ≤ last_moment + longest_lease)
    by None kept = λ w some. absurd (cc some)
    by (Some w) kept = by_kept (is_of w renewal) w kept
