-- The places of the watched holds.
use Rattle.std.proofs.Common.{◌≡◌, ◌≢◌, ◌≤◌, ◌<◌, ◌+◌, ℕ, zero, suc, Bool, true, false, not, List, [], ◌∷◌, Option, None, Some, is_some, length, get_or, slice_index, slice_set, position, nat_eq, if◌then◌else◌, refl, ap, subst, ◌∙◌, sym, arith}
use Rattle.std.proofs.lemmas.Bool.Decides.{nat_tests}
use Rattle.std.proofs.lemmas.Grind.{common_steps}
use Rattle.std.specs.List.{position_or_len, swap_remove}
use Rattle.std.specs.Map.{keys_of}
use Rattle.std.specs.Option.{option_map_or}
use Rattle.indexmap.proofs.MapLemmas.{swap_remove-default}
use Rattle.indexmap.specs.IndexMap.{insert_entry, swap_remove_entry}
use Rattle.lr_expiry.specs.Tree.{IsLonger}
use Rattle.lr_expiry.specs.declared.limits.TheConstants.{NO_EXPIRY}
use Rattle.lr_waiting.specs.declared.watch.WatchKey.{WatchKey}
use Rattle.lr_waiting.specs.contracts.watch.WatchKeyPartialEq.TheImpl.{ghosts}
use Rattle.lr_watchdog.specs.declared.slot.Slot.{Slot}
use Rattle.lr_watchdog.specs.Value.{AreDue, due_in}

-- the place of a hold: behind the others where it has none
abbrev pub place_of : List (WatchKey × Slot) → WatchKey → ℕ
place_of rows key = position_or_len (ghosts.eq key) (keys_of rows)

next : (n : ℕ) → 1 + n ≡ suc n
next n = omega arith

-- a row that a change at another place leaves
record Stays (new old : List (WatchKey × Slot)) (k : ℕ) (d : WatchKey × Slot) : Type 0 where
  pub row : get_or new k d ≡ get_or old k d
  pub within : k < length old

module _ (key : WatchKey) (slot : Slot) where
  -- the rows with the slot at the hold
  abbrev pub with_slot : List (WatchKey × Slot) → List (WatchKey × Slot)
  with_slot rows = insert_entry ghosts.eq rows key slot

  -- no row is lost
  longer : (rows : List (WatchKey × Slot)) → length rows ≤ length (with_slot rows)
  longer [] = omega arith
  longer (row ∷ rows) = by (ghosts.eq key row.0) (longer rows)
    where
      by : (b : Bool) → length rows ≤ length (with_slot rows)
          → suc (length rows) ≤ length (if b then (row.0, slot) ∷ rows else row ∷ with_slot rows)
      by true rest = omega arith
      by false rest = omega (arith, rest)

  -- at its place stands the slot
  here : (rows : List (WatchKey × Slot)) (d : WatchKey × Slot)
      → (get_or (with_slot rows) (place_of rows key) d).1 ≡ slot
  here [] d = refl
  here (row ∷ rows) d = by (ghosts.eq key row.0) (here rows d)
    where
      by : (b : Bool) → (get_or (with_slot rows) (place_of rows key) d).1 ≡ slot
          → (get_or (if b then (row.0, slot) ∷ rows else row ∷ with_slot rows)
          (if not b then 1 + place_of rows key else 0) d).1 ≡ slot
      by true rest = refl
      by false rest =
          ap (λ n. (get_or (row ∷ with_slot rows) n d).1) (next (place_of rows key)) ∙ rest

  -- at the others stands what stood there
  there : (rows : List (WatchKey × Slot)) (k : ℕ) (d : WatchKey × Slot)
      → k ≢ place_of rows key → k < length (with_slot rows) → Stays (with_slot rows) rows k d
  there [] k d apart below = absurd (apart (omega (arith, below)))
  there (row ∷ rows) k d apart below = by (ghosts.eq key row.0) (there rows) k apart below
    where
      by : (b : Bool) → ((k : ℕ) (d : WatchKey × Slot) → k ≢ place_of rows key
          → k < length (with_slot rows) → Stays (with_slot rows) rows k d) → (k : ℕ)
          → k ≢ (if not b then 1 + place_of rows key else 0)
          → k < length (if b then (row.0, slot) ∷ rows else row ∷ with_slot rows)
          → Stays (if b then (row.0, slot) ∷ rows else row ∷ with_slot rows) (row ∷ rows) k d
      by true rest zero apart below = absurd (apart refl)
      by true rest (suc k) apart below = record { row = refl; within = below }
      by false rest zero apart below = record { row = refl; within = omega arith }
      by false rest (suc k) apart below =
          let stays = rest k d (λ same. apart (omega (arith, same))) (omega (arith, below)) in
          record { row = stays.row; within = omega (arith, stays.within) }

-- with more places behind the others
pub AreDue-longer : (rows : List (WatchKey × Slot)) (old new : List ℕ) → IsLonger old new
    → AreDue rows old → AreDue rows new
AreDue-longer rows old new longer h =
    let room = h.room in
    let is = longer.1 in
    record {
      room = grind (arith, common_steps, room, is);
      each = λ k d below. let kept = h.each k d below in grind (arith, common_steps, kept, room, is);
      rest = λ k past below. let kept = h.rest k past in grind (arith, common_steps, kept, is, past, below);
    }

module _ (rows : List (WatchKey × Slot)) (due : List ℕ) (key : WatchKey) (slot : Slot)
    (h : AreDue rows due) (place : ℕ) (is : place ≡ place_of rows key)
    (within : place < length (with_slot key slot rows))
    (room : length (with_slot key slot rows) ≤ length due) where
  each-inserted : (k : ℕ) (d : WatchKey × Slot) → k < length (with_slot key slot rows) → (b : Bool)
      → nat_eq k place ≡ b → slice_index (slice_set due place (due_in slot)) k
      ≡ due_in (get_or (with_slot key slot rows) k d).1
  each-inserted k d below true e =
      let same : k ≡ place = grind (arith, nat_tests, e) in
      let put : (get_or (with_slot key slot rows) k d).1 ≡ slot =
      ap (λ n. (get_or (with_slot key slot rows) n d).1) (same ∙ is) ∙ here key slot rows d in
      rw put (rw same (grind (arith, common_steps, within, room)))
  each-inserted k d below false e =
      let apart : k ≢ place = grind (arith, nat_tests, e) in
      let stays = there key slot rows k d (λ same. apart (same ∙ sym is)) below in
      let kept = h.each k d stays.within in
      rw stays.row (grind (arith, common_steps, apart, kept))

  -- the due moment of a slot stands at its place
  pub AreDue-inserted : AreDue (with_slot key slot rows) (slice_set due place (due_in slot))
  AreDue-inserted = record {
    room = grind (arith, common_steps, room);
    each = λ k d below. each-inserted k d below (nat_eq k place) refl;
    rest = λ k past below.
        let old = h.rest k (omega (arith, longer key slot rows, past)) in
        let apart : k ≢ place = omega (arith, within, past) in
        grind (arith, common_steps, old, apart, below);
  }

-- what is left where the row at a place was removed by its key
pub swap_remove_entry-at : (test : WatchKey → Bool) (rows : List (WatchKey × Slot)) (place : ℕ)
    (d : WatchKey × Slot) → position test (keys_of rows) ≡ Some place
    → swap_remove_entry test rows ≡ swap_remove rows place d
swap_remove_entry-at test [] place d found = absurd (cc found)
swap_remove_entry-at test (row ∷ rows) place d found =
    ap (λ o. option_map_or (λ i. swap_remove (row ∷ rows) i row) o (row ∷ rows)) found
    ∙ swap_remove-default (row ∷ rows) place row d (omega arith)

-- there are as many keys as rows
pub length_keys : (rows : List (WatchKey × Slot)) → length (keys_of rows) ≡ length rows
length_keys [] = refl
length_keys (row ∷ rows) = ap suc (length_keys rows)

module _ (rows : List (WatchKey × Slot)) (due : List ℕ) (place last : ℕ) (d : WatchKey × Slot)
    (h : AreDue rows due) (within : place < length rows) (len : last + 1 ≡ length rows) where
  -- at a place that stays
  each-removed : (k : ℕ) (x : WatchKey × Slot) → k < last → (b : Bool) → nat_eq k place ≡ b
      → slice_index (slice_set (slice_set due place (slice_index due last)) last NO_EXPIRY) k
      ≡ due_in (get_or (swap_remove rows place d) k x).1
  each-removed k x below true e =
      let same : k ≡ place = grind (arith, nat_tests, e) in
      let moved = h.each last x (omega arith) in
      let room = h.room in
      grind (arith, common_steps, same, moved, room)
  each-removed k x below false e =
      let apart : k ≢ place = grind (arith, nat_tests, e) in
      let kept = h.each k x (omega arith) in
      let room = h.room in
      grind (arith, common_steps, apart, kept, room)

  -- the last slot and its due moment take the place of what is removed
  pub AreDue-removed : AreDue (swap_remove rows place d)
      (slice_set (slice_set due place (slice_index due last)) last NO_EXPIRY)
  AreDue-removed = record {
    room = grind (arith, common_steps, h.room);
    each = λ k x below. each-removed k x (grind (arith, common_steps, below)) (nat_eq k place) refl;
    rest = λ k past below. grind (arith, common_steps, h.rest);
  }

-- the same, as it is found after a call
pub AreDue-put : (old new : List (WatchKey × Slot)) (due after : List ℕ) (key : WatchKey)
    (slot : Slot) (place moment : ℕ) → AreDue old due
    → new ≡ insert_entry ghosts.eq old key slot → place ≡ place_of old key → place < length new
    → length new ≤ length due → moment ≡ due_in slot → after ≡ slice_set due place moment
    → AreDue new after
AreDue-put old new due after key slot place moment h made is within room falls set =
    subst (λ rows. AreDue rows after) (sym made)
    (subst (AreDue (with_slot key slot old)) (sym (set ∙ ap (slice_set due place) falls))
    (AreDue-inserted old due key slot h place is (subst (λ rows. place < length rows) made within)
    (subst (λ rows. length rows ≤ length due) made room)))

-- what a new hold adds to how many there are
pub one_at_most : (b : Bool) → (if b then 0 else 1) ≤ 1
one_at_most true = omega arith
one_at_most false = omega arith

-- a hold that was there adds nothing
pub none_added : (old : Option Slot) → old ≢ None → (if is_some old then 0 else 1) ≤ 0
none_added None some = absurd (some refl)
none_added (Some slot) some = omega arith
