-- The expiries by place, as the slots change.
use Rattle.std.proofs.Common.{◌≡◌, ◌≢◌, ◌≤◌, ◌<◌, ◌+◌, ℕ, zero, suc, Bool, true, false, cond, List, [], ◌∷◌, ◌++◌, Option, Some, None, length, map, nat_eq, get_or, slice_get, slice_index, slice_set, position, refl, sym, ap, subst, ◌∙◌, arith}
use Rattle.std.proofs.lemmas.Bool.Decides.{nat_tests}
use Rattle.std.proofs.lemmas.Grind.{common_steps}
use Rattle.std.proofs.lemmas.List.Quantifiers.{position-Some}
use Rattle.std.proofs.lemmas.Option.{get_or_from_slice_get, slice_get-map}
use Rattle.std.specs.List.{swap_remove}
use Rattle.std.specs.Map.{keys_of, values_of, lookup, set_value}
use Rattle.std.specs.Option.{option_map, option_map_or}
use Rattle.std.specs.Str.{bytes_eq}
use Rattle.indexmap.proofs.MapLemmas.{swap_remove-default}
use Rattle.indexmap.specs.IndexMap.{set_value_at, swap_remove_entry}
use Rattle.lr_expiry.specs.declared.limits.TheConstants.{NO_EXPIRY}
use Rattle.lr_keys.specs.declared.slot.Slot.{Slot}
use Rattle.lr_keys.specs.declared.slot.Stored.{Stored}
use Rattle.lr_keys.specs.KeySpace.{KeyEntry}
use Rattle.lr_keys.specs.Slots.{AreExpiries, key_entries_of, moment_of, new_slot}
use Rattle.lr_keys.proofs.TableLaws.{same_bytes}

-- what is left where the entry at a place was removed by its key
pub swap_remove_entry-at : (test : List ℕ → Bool) (es : List (List ℕ × Slot)) (place : ℕ)
    (d : List ℕ × Slot) → position test (keys_of es) ≡ Some place
    → swap_remove_entry test es ≡ swap_remove es place d
swap_remove_entry-at test [] place d found = absurd (cc found)
swap_remove_entry-at test (e ∷ es) place d found =
    ap (λ o. option_map_or (λ i. swap_remove (e ∷ es) i e) o (e ∷ es)) found
    ∙ swap_remove-default (e ∷ es) place e d (omega arith)

-- there are as many keys as entries
pub length_keys : (es : List (List ℕ × Slot)) → length (keys_of es) ≡ length es
length_keys [] = refl
length_keys (e ∷ es) = ap suc (length_keys es)

module _ (es : List (List ℕ × Slot)) (ds : List ℕ) (place last : ℕ) (d : List ℕ × Slot)
    (h : AreExpiries es ds) (within : place < length es) (len : last + 1 ≡ length es) where
  -- at a place that stays
  each-removed : (k : ℕ) (x : List ℕ × Slot) → k < last → (b : Bool) → nat_eq k place ≡ b
      → slice_index (slice_set (slice_set ds place (slice_index ds last)) last NO_EXPIRY) k
      ≡ moment_of (get_or (swap_remove es place d) k x).1.expiry
  each-removed k x below true e =
      let here : k ≡ place = grind (arith, nat_tests, e) in
      let moved = h.each last x (omega arith) in
      let room = h.room in
      grind (arith, common_steps, here, moved, room)
  each-removed k x below false e =
      let apart : k ≢ place = grind (arith, nat_tests, e) in
      let kept = h.each k x (omega arith) in
      let room = h.room in
      grind (arith, common_steps, apart, kept, room)

  -- the last slot and its expiry take the place of what is removed
  pub AreExpiries-removed : AreExpiries (swap_remove es place d)
      (slice_set (slice_set ds place (slice_index ds last)) last NO_EXPIRY)
  AreExpiries-removed = record {
    room = grind (arith, common_steps, h.room);
    each = λ k x below. each-removed k x (grind (arith, common_steps, below)) (nat_eq k place) refl;
    rest = λ k past below. grind (arith, common_steps, h.rest);
  }

-- a key with its slot, where the key was found
pub entry_at_place : (es : List (List ℕ × Slot)) (key : List ℕ) (place : ℕ) (u : Slot)
    → position (bytes_eq key) (keys_of es) ≡ Some place → slice_get (values_of es) place ≡ Some u
    → slice_get es place ≡ Some (key, u)
entry_at_place es key place u found value =
    let at = behind (slice_get es place)
    (sym (slice_get-map (λ (e : List ℕ × Slot). e.1) es place) ∙ value) in
    let named : slice_get (keys_of es) place ≡ Some at.0.0 =
    slice_get-map (λ (e : List ℕ × Slot). e.0) es place
    ∙ ap (λ (o : Option (List ℕ × Slot)). option_map (λ (e : List ℕ × Slot). e.0) o) at.1 in
    let read : get_or (keys_of es) place key ≡ at.0.0 =
    get_or_from_slice_get (keys_of es) place at.0.0 key named in
    let tested : bytes_eq key (get_or (keys_of es) place key) ≡ true =
    (position-Some (bytes_eq key) (keys_of es) place key found).1 in
    let same : key ≡ at.0.0 = same_bytes key at.0.0 (subst (λ k. bytes_eq key k ≡ true) read tested) in
    at.1 ∙ (λ i. Some (sym same i, at.2 i))
  where
    behind : (o : Option (List ℕ × Slot)) → option_map (λ (e : List ℕ × Slot). e.1) o ≡ Some u
        → (e : List ℕ × Slot) × (o ≡ Some e) × (e.1 ≡ u)
    behind None h = absurd (cc h)
    behind (Some e) h = (e, refl, cc h)

-- a write by place
written_at : (es : List (List ℕ × Slot)) (i : ℕ) (w : Slot) (d : List ℕ × Slot) → i < length es
    → (get_or (set_value_at es i w) i d).1 ≡ w
written_at [] i w d within = absurd (omega arith)
written_at (e ∷ es) zero w d within = refl
written_at (e ∷ es) (suc i) w d within = written_at es i w d (omega arith)

others_at : (es : List (List ℕ × Slot)) (i k : ℕ) (w : Slot) (d : List ℕ × Slot) → k ≢ i
    → get_or (set_value_at es i w) k d ≡ get_or es k d
others_at [] i k w d apart = refl
others_at (e ∷ es) zero zero w d apart = absurd (apart refl)
others_at (e ∷ es) zero (suc k) w d apart = refl
others_at (e ∷ es) (suc i) zero w d apart = refl
others_at (e ∷ es) (suc i) (suc k) w d apart = others_at es i k w d (λ e. apart (ap suc e))

length_written : (es : List (List ℕ × Slot)) (i : ℕ) (w : Slot)
    → length (set_value_at es i w) ≡ length es
length_written [] i w = refl
length_written (e ∷ es) zero w = refl
length_written (e ∷ es) (suc i) w = ap suc (length_written es i w)

module _ (es : List (List ℕ × Slot)) (ds : List ℕ) (place : ℕ) (w : Slot) (expiry : ℕ)
    (h : AreExpiries es ds) (within : place < length es) (is : w.expiry ≡ Some expiry) where
  each-set : (k : ℕ) (d : List ℕ × Slot) → k < length es → (b : Bool) → nat_eq k place ≡ b
      → slice_index (slice_set ds place expiry) k
      ≡ moment_of (get_or (set_value_at es place w) k d).1.expiry
  each-set k d below true e =
      let here : k ≡ place = grind (arith, nat_tests, e) in
      let wrote = written_at es place w d within in
      let room = h.room in
      grind (arith, common_steps, here, wrote, is, room)
  each-set k d below false e =
      let apart : k ≢ place = grind (arith, nat_tests, e) in
      let stays = others_at es place k w d apart in
      let kept = h.each k d below in
      let room = h.room in
      grind (arith, common_steps, apart, stays, kept, room)

  -- an expiry is written at the place of its slot
  pub AreExpiries-set : AreExpiries (set_value_at es place w) (slice_set ds place expiry)
  AreExpiries-set = record {
    room = grind (arith, common_steps, length_written, h.room);
    each = λ k d below. each-set k d (subst (λ n. k < n) (length_written es place w) below)
        (nat_eq k place) refl;
    rest = λ k past below. grind (arith, common_steps, length_written, h.rest, h.room);
  }

-- the slots have the expiries that they had, at the places that they had
pub AreExpiries-alike : (es fs : List (List ℕ × Slot)) (ds : List ℕ)
    → map (λ (e : List ℕ × Slot). e.1.expiry) fs ≡ map (λ (e : List ℕ × Slot). e.1.expiry) es
    → AreExpiries es ds → AreExpiries fs ds
AreExpiries-alike es fs ds same h = record {
  room = subst (λ n. n ≤ length ds) (sym len) h.room;
  each = λ k d below. h.each k d (subst (λ n. k < n) len below) ∙ ap moment_of (sym (at k d below));
  rest = λ k past within. h.rest k (subst (λ n. n ≤ k) len past) within;
}
  where
    expiry_in : List ℕ × Slot → Option ℕ
    expiry_in e = e.1.expiry

    len : length fs ≡ length es
    len = grind (arith, common_steps, ap length same)

    at : (k : ℕ) (d : List ℕ × Slot) → k < length fs
        → (get_or fs k d).1.expiry ≡ (get_or es k d).1.expiry
    at k d below = grind (arith, common_steps, ap (λ xs. get_or xs k (expiry_in d)) same)

-- so where they are shown as before
pub AreExpiries-shown : (es fs : List (List ℕ × Slot)) (ds : List ℕ)
    → key_entries_of fs ≡ key_entries_of es → AreExpiries es ds → AreExpiries fs ds
AreExpiries-shown es fs ds same h = AreExpiries-alike es fs ds
    (sym (shown fs) ∙ ap (map (λ (e : List ℕ × KeyEntry). e.1.expiry)) same ∙ shown es) h
  where
    shown : (xs : List (List ℕ × Slot))
        → map (λ (e : List ℕ × KeyEntry). e.1.expiry) (key_entries_of xs)
        ≡ map (λ (e : List ℕ × Slot). e.1.expiry) xs
    shown [] = refl
    shown (x ∷ xs) = ap (λ l. x.1.expiry ∷ l) (shown xs)

pub length_shown : (es fs : List (List ℕ × Slot)) → key_entries_of fs ≡ key_entries_of es
    → length fs ≡ length es
length_shown es fs same = sym (shown fs) ∙ ap length same ∙ shown es
  where
    shown : (xs : List (List ℕ × Slot)) → length (key_entries_of xs) ≡ length xs
    shown [] = refl
    shown (x ∷ xs) = ap suc (shown xs)

-- a write of the slot at a key, with the expiry that it had
pub AreExpiries-written : (test : List ℕ → Bool) (es : List (List ℕ × Slot)) (ds : List ℕ)
    (u w : Slot) → Some u ≡ lookup test es → w.expiry ≡ u.expiry → AreExpiries es ds
    → AreExpiries (set_value test es w) ds
AreExpiries-written test es ds u w found same h =
    AreExpiries-alike es (set_value test es w) ds (written es (sym found)) h
  where
    written : (xs : List (List ℕ × Slot)) → lookup test xs ≡ Some u
        → map (λ (e : List ℕ × Slot). e.1.expiry) (set_value test xs w)
        ≡ map (λ (e : List ℕ × Slot). e.1.expiry) xs
    written [] at = refl
    written (x ∷ xs) at = by (test x.0) at (written xs)
      where
        by : (b : Bool) → cond b (Some x.1) (lookup test xs) ≡ Some u
            → (lookup test xs ≡ Some u
            → map (λ (e : List ℕ × Slot). e.1.expiry) (set_value test xs w)
            ≡ map (λ (e : List ℕ × Slot). e.1.expiry) xs)
            → map (λ (e : List ℕ × Slot). e.1.expiry) (cond b ((x.0, w) ∷ xs) (x ∷ set_value test xs w))
            ≡ map (λ (e : List ℕ × Slot). e.1.expiry) (x ∷ xs)
        by true here rest = let one : x.1 ≡ u = cc here in
            ap (λ e. e ∷ map (λ (y : List ℕ × Slot). y.1.expiry) xs)
            (same ∙ ap (λ (y : Slot). y.expiry) (sym one))
        by false there rest = ap (λ l. x.1.expiry ∷ l) (rest there)

-- a new slot, which has no expiry
pub AreExpiries-push : (es : List (List ℕ × Slot)) (ds : List ℕ) (key : List ℕ) (value : Stored)
    → AreExpiries es ds → length es < length ds
    → AreExpiries (es ++ (key, new_slot value) ∷ []) ds
AreExpiries-push es ds key value h room = record {
  room = grind (arith, common_steps);
  each = λ k d below. grind (arith, common_steps, h.each, h.rest);
  rest = λ k past within. grind (arith, common_steps, h.rest);
}
