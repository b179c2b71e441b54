-- What is left of the slots as the moment goes on.
use Rattle.std.proofs.Common.{◌≡◌, ◌≤◌, ◌<◌, ℕ, Bool, true, false, cond, List, length, slice_get, slice_index, Option, Some, None, if◌then◌else◌, refl, ap, sym, subst, ◌∙◌, arith}
use Rattle.std.proofs.Math.Nat.{le_trans}
use Rattle.std.proofs.lemmas.Bool.Decides.{nat_tests}
use Rattle.std.proofs.lemmas.Map.Entries.{place_from_lookup}
use Rattle.std.proofs.lemmas.Option.{get_or_from_slice_get, slice_get_within}
use Rattle.std.specs.Map.{lookup}
use Rattle.std.specs.Option.{ForSome, option_map}
use Rattle.std.specs.Str.{bytes_eq}
use Rattle.indexmap.specs.IndexMap.{get, spare, index_map_len}
use Rattle.lr_limits.specs.Limits.{last_moment}
use Rattle.lr_keys.specs.declared.key_space.KeySpace.TheInside.{Inside}
use Rattle.lr_keys.specs.declared.slot.Slot.{Slot}
use Rattle.lr_keys.specs.KeySpace.{Keys, entry_at, is_ahead, live_entry, live_entries}
use Rattle.lr_keys.specs.Slots.{AreExpiries, moment_of, IsKeySpace, IsRoomFor, live_slot, key_entry_of, keys_inside}
use Rattle.lr_keys.specs.Table.{with_key}
use Rattle.lr_keys.proofs.SlotLemmas.{entry_at-keys_inside}
use Rattle.lr_keys.proofs.TableLaws.{same_bytes}

-- what is left of a slot is shown as what is left of the entry
key_entry_of-live_slot : (moment : ℕ) (o : Option Slot)
    → option_map key_entry_of (live_slot moment o) ≡ live_entry moment (option_map key_entry_of o)
key_entry_of-live_slot moment None = refl
key_entry_of-live_slot moment (Some slot) = by (is_ahead moment slot.expiry)
  where
    by : (b : Bool) → option_map key_entry_of (if b then Some slot else None)
        ≡ (if b then Some (key_entry_of slot) else None)
    by true = refl
    by false = refl

-- a slot that expires later is left as it is
is_ahead-later : (moment : ℕ) (expiry : Option ℕ) → ForSome expiry (λ e. moment < e)
    → is_ahead moment expiry ≡ true
is_ahead-later moment None later = refl
is_ahead-later moment (Some e) later = grind (arith, nat_tests, later e refl)

pub live_slot-later : (moment : ℕ) (o : Option Slot)
    → ForSome o (λ slot. ForSome slot.expiry (λ e. moment < e)) → o ≡ live_slot moment o
live_slot-later moment None later = refl
live_slot-later moment (Some slot) later =
    sym (ap (λ (b : Bool). if b then Some slot else None)
    (is_ahead-later moment slot.expiry (later slot refl)))

-- and what is left was there, and lies ahead
left_ahead : (moment : ℕ) (expiry : Option ℕ) → is_ahead moment expiry ≡ true
    → ForSome expiry (λ e. moment < e)
left_ahead moment None ahead = λ e at. absurd (cc at)
left_ahead moment (Some x) ahead = λ e at. let same : x ≡ e = cc at in
    grind (arith, nat_tests, ahead)

left : (moment : ℕ) (o : Option Slot) (slot : Slot) → live_slot moment o ≡ Some slot
    → (o ≡ Some slot) × (is_ahead moment slot.expiry ≡ true)
left moment None slot e = absurd (cc e)
left moment (Some x) slot e = by (is_ahead moment x.expiry) refl e
  where
    by : (b : Bool) → is_ahead moment x.expiry ≡ b → (if b then Some x else None) ≡ Some slot
        → (◌≡◌ {A = Option Slot} (Some x) (Some slot)) × (is_ahead moment slot.expiry ≡ true)
    by true ahead same = let one : x ≡ slot = cc same in
        (same, ap (λ (s : Slot). is_ahead moment s.expiry) (sym one) ∙ ahead)
    by false ahead none = absurd (cc none)

-- what a slot of a place that is due is at the moment: gone
pub is_gone : (es : List (List ℕ × Slot)) (ds : List ℕ) (place moment : ℕ) (key : List ℕ) (u : Slot)
    → AreExpiries es ds → slice_get es place ≡ Some (key, u) → slice_index ds place ≤ moment
    → moment ≤ last_moment → is_ahead moment u.expiry ≡ false
is_gone es ds place moment key u h at due early =
    let within = slice_get_within es place (key, u) at in
    let entry = get_or_from_slice_get es place (key, u) (key, u) at in
    let is : slice_index ds place ≡ moment_of u.expiry =
    h.each place (key, u) within ∙ ap (λ (e : List ℕ × Slot). moment_of e.1.expiry) entry in
    by u.expiry (subst (λ n. n ≤ moment) is due)
  where
    by : (expiry : Option ℕ) → moment_of expiry ≤ moment → is_ahead moment expiry ≡ false
    by None le = absurd (omega (arith, le, early))
    by (Some e) le = grind (arith, nat_tests, le)

-- what is gone can be removed
pub live_slot-removed : (moment : ℕ) (f g : List ℕ → Option Slot) (key : List ℕ) (u : Slot)
    → f key ≡ Some u → is_ahead moment u.expiry ≡ false
    → ((q : List ℕ) → g q ≡ with_key key None f q) → (q : List ℕ)
    → live_slot moment (g q) ≡ live_slot moment (f q)
live_slot-removed moment f g key u at gone sets q =
    ap (live_slot moment) (sets q) ∙ by (bytes_eq key q) refl
  where
    none : live_slot moment (f key) ≡ None
    none = ap (live_slot moment) at ∙ ap (λ (b : Bool). if b then Some u else None) gone

    by : (b : Bool) → bytes_eq key q ≡ b
        → live_slot moment (cond b None (f q)) ≡ live_slot moment (f q)
    by true e = sym (ap (λ k. live_slot moment (f k)) (sym (same_bytes key q e)) ∙ none)
    by false e = refl

-- where all places are later, nothing is gone
pub live_slot-all : (es : List (List ℕ × Slot)) (ds : List ℕ) (moment : ℕ) → AreExpiries es ds
    → ((place : ℕ) → place < length ds → moment < slice_index ds place) → (q : List ℕ)
    → lookup (bytes_eq q) es ≡ live_slot moment (lookup (bytes_eq q) es)
live_slot-all es ds moment h later q = live_slot-later moment (lookup (bytes_eq q) es)
    (λ slot at e ahead.
    let found = place_from_lookup (bytes_eq q) es slot at in
    let within = slice_get_within es found.0 (found.1, slot) found.2 in
    let entry = get_or_from_slice_get es found.0 (found.1, slot) (found.1, slot) found.2 in
    let is : slice_index ds found.0 ≡ e = h.each found.0 (found.1, slot) within
    ∙ ap (λ (x : List ℕ × Slot). moment_of x.1.expiry) entry ∙ ap moment_of ahead in
    subst (λ n. moment < n) is (later found.0 (omega (arith, within, h.room))))

IsRoomFor-live : (moment : ℕ) (o : Option Slot) → IsRoomFor o → IsRoomFor (live_slot moment o)
IsRoomFor-live moment None room = tt
IsRoomFor-live moment (Some slot) room = by (is_ahead moment slot.expiry)
  where
    by : (b : Bool) → IsRoomFor (if b then Some slot else None)
    by true = room
    by false = tt

module _ (s t : Inside) where
  -- what is left of the slots, as what is left of the entries
  pub entry_at-live : (old : Keys) (moment : ℕ) → keys_inside s ≡ old
      → ((q : List ℕ) → get bytes_eq t.slots q ≡ live_slot moment (get bytes_eq s.slots q))
      → entry_at (keys_inside t) ≡ live_entries moment (entry_at old)
  entry_at-live old moment view slots =
      λ i q. (entry_at-keys_inside t q ∙ ap (option_map key_entry_of) (slots q)
      ∙ key_entry_of-live_slot moment (get bytes_eq s.slots q)
      ∙ ap (live_entry moment) (sym (entry_at-keys_inside s q) ∙ ap (λ k. entry_at k q) view)) i

  -- what is kept stays so where what is gone is removed
  pub IsKeySpace-live : IsKeySpace s → t.moment ≤ last_moment → t.spares ≡ s.spares
      → ((q : List ℕ) → get bytes_eq t.slots q ≡ live_slot t.moment (get bytes_eq s.slots q))
      → AreExpiries t.slots.entries t.expiries → index_map_len t.slots ≤ index_map_len s.slots
      → length t.expiries ≡ length s.expiries → spare s.slots ≤ spare t.slots → IsKeySpace t
  IsKeySpace-live kept moment spares slots expiries fewer places room = record {
    moment = moment;
    slots = λ key slot at.
        let was = left t.moment (get bytes_eq s.slots key) slot (sym (slots key) ∙ at) in
        let live = kept.slots key slot was.0 in
        record {
          ahead = left_ahead t.moment slot.expiry was.1;
          near = live.near;
          some = live.some;
          few = live.few;
        };
    expiries = expiries;
    places = omega (arith, ap (λ m. index_map_len m) spares, fewer, places, kept.places);
    room = le_trans (subst (λ (n : ℕ). n ≤ spare s.slots)
        (ap (λ m. index_map_len m) (sym spares)) kept.room) room;
    ready = λ key p at.
        let r = kept.ready key p (ap (λ m. get bytes_eq m key) (sym spares) ∙ at) in
        record {
          spare = r.spare;
          room = subst IsRoomFor (sym (slots key))
              (IsRoomFor-live t.moment (get bytes_eq s.slots key) r.room);
        };
  }
