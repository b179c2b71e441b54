use Rattle.std.proofs.Common.{◌≡◌, ℕ, Bool, true, false, cond, List, [], ◌∷◌, ◌++◌, Option, Some, None, IsSome, Result, Ok, Err, OnOk, OnErr, ◌&&◌, true≢false, ℤ, refl, map, is_some, length, nat_lt, if◌then◌else◌, ◌≤◌, ◌<◌, ◌+◌, arith, ap, sym, subst, ◌∙◌}
use Rattle.std.proofs.Math.Nat.{le_trans}
use Rattle.std.specs.Borrow.{MutBor}
use Rattle.std.specs.Option.{ForSome, option_map, option_copied_mut}
use Rattle.std.specs.Str.{bytes_eq}
use Rattle.std.specs.Map.{lookup, set_value}
use Rattle.indexmap.specs.IndexMap.{IndexMap, get, spare, index_map_len, WritesThrough}
use Rattle.lr_keys.specs.declared.addition.Addition.{Addition}
use Rattle.lr_keys.specs.Addition.{content_made, content_with, content_without, entry_with, entry_without}
use Rattle.lr_keys.specs.KeySpace.{Content, Fields, Items, Members, Number, Keys, KeyEntry, member_count, is_empty, is_plan_for, is_same_kind, hash_at, hash_in, zset_at, zset_in, count_at, score_at, seen, number_after_increment, field_after_increment, is_new_score, is_new_member, AreLive, IsLive, entry_at, plan_at}
use Rattle.lr_keys.specs.Slots.{KeepsSlot, new_slot, key_entry_of, content_of, key_entries_of, plans_of, plan_of, HasMember, HasMemberAt, HasRoom, IsSpareFor, keys_inside, IsReadySpare, IsRoomFor, IsLiveSlot, AreExpiries, IsKeySpace}
use Rattle.lr_limits.specs.Limits.{last_moment, longest_lease, member_limit}
use Rattle.lr_keys.specs.declared.value_kind.ValueKind.{ValueKind}
use Rattle.lr_keys.specs.declared.value_kind.ValueKind.TheVariants.{Hash as HashKind, List as ListKind, Zset, Counter as CounterKind}
use Rattle.lr_keys.specs.declared.fault.KeyFault.TheVariants.{TooMany}
use Rattle.lr_keys.specs.Table.{with_key, WritesKey, without_key_if}
use Rattle.lr_keys.proofs.TableLaws.{at_each-with_key, with_key-same}
use Rattle.lr_keys.specs.declared.slot.Slot.{Slot}
use Rattle.lr_keys.specs.declared.slot.Spare.{Spare}
use Rattle.lr_keys.specs.declared.slot.Stored.{Stored}
use Rattle.lr_keys.specs.FieldMap.{field_value, Pairs}
use Rattle.lr_sorted.specs.Members.{Members as Scores, score_of}
use Rattle.lr_keys.proofs.ExpiryLemmas.{AreExpiries-push, AreExpiries-shown, AreExpiries-written, length_shown}
use Rattle.lr_keys.proofs.CountLemmas.{member_count-made, member_count-there, member_count-with, member_count-without, some-content_with, some_members}
use Rattle.lr_keys.specs.declared.key_space.KeySpace.TheInside.{Inside}

-- a look-up among values that are shown by f
pub lookup-map : {X Y : Type 0} (f : X → Y) (test : List ℕ → Bool) (es : List (List ℕ × X))
    → lookup {X = Y} test (map {B = List ℕ × Y} (λ (e : List ℕ × X). (e.0, f e.1)) es)
    ≡ option_map f (lookup test es)
lookup-map f test [] = refl
lookup-map {X} {Y} f test (e ∷ es) = by (test e.0) (lookup-map f test es)
  where
    by : (b : Bool) {o : Option Y} → o ≡ option_map f (lookup test es)
        → cond b (Some (f e.1)) o ≡ option_map f (cond b (Some e.1) (lookup test es))
    by true h = refl
    by false h = h

pub entry_at-keys_inside : (s : Inside) (key : List ℕ)
    → entry_at (keys_inside s) key ≡ option_map key_entry_of (get bytes_eq s.slots key)
unfolding entry_at
entry_at-keys_inside s key = lookup-map key_entry_of (bytes_eq key) s.slots.entries

pub plan_at-keys_inside : (s : Inside) (key : List ℕ)
    → plan_at (keys_inside s) key ≡ option_map plan_of (get bytes_eq s.spares key)
unfolding plan_at
plan_at-keys_inside s key = lookup-map plan_of (bytes_eq key) s.spares.entries

-- what is read of the slots, for the keys that are shown
pub entry_at-read : (s : Inside) (keys : Keys) (key : List ℕ) (o : Option Slot)
    → keys_inside s ≡ keys → o ≡ get bytes_eq s.slots key
    → entry_at keys key ≡ option_map key_entry_of o
entry_at-read s keys key o view read = ap (λ k. entry_at k key) (sym view)
    ∙ entry_at-keys_inside s key ∙ ap (option_map key_entry_of) (sym read)

pub plan_at-read : (s : Inside) (keys : Keys) (key : List ℕ) (o : Option Spare)
    → keys_inside s ≡ keys → o ≡ get bytes_eq s.spares key → plan_at keys key ≡ option_map plan_of o
plan_at-read s keys key o view read = ap (λ k. plan_at k key) (sym view) ∙ plan_at-keys_inside s key
    ∙ ap (option_map plan_of) (sym read)

-- what a mapped option holds came from a value
pub option_map-some : {X Y : Type 0} (f : X → Y) (o : Option X) (y : Y) → option_map f o ≡ Some y
    → (x : X) × (o ≡ Some x) × (f x ≡ y)
option_map-some f None y h = absurd (cc h)
option_map-some f (Some x) y h = (x, refl, cc h)

-- what is kept of the fields, for the keys that are shown
pub AreLive-keys_inside : (s : Inside) → IsKeySpace s → AreLive (keys_inside s)
AreLive-keys_inside s kept = record {
  moment = kept.moment;
  live = λ key e at.
      let found = option_map-some key_entry_of (get bytes_eq s.slots key) e
      (sym (entry_at-keys_inside s key) ∙ at) in
      subst (IsLive s.moment) found.2 (kept.slots key found.0 found.1);
}

-- where no key is kept, none is shown
pub entry_at-empty : (s : Inside) → s.slots.entries ≡ [] → entry_at (keys_inside s) ≡ (λ _. None)
entry_at-empty s empty =
    λ i key. (entry_at-keys_inside s key
    ∙ ap (λ es. option_map key_entry_of (lookup (bytes_eq key) es)) empty) i

pub plan_at-empty : (s : Inside) → s.spares.entries ≡ [] → plan_at (keys_inside s) ≡ (λ _. None)
plan_at-empty s empty = λ i key.
    (plan_at-keys_inside s key ∙ ap (λ es. option_map plan_of (lookup (bytes_eq key) es)) empty) i

module _ (s t : Inside) where
  -- a change of the slots at one key, as a change of what is shown
  pub entry_at-set : (keys : Keys) (key : List ℕ) (w : Option Slot) → keys_inside s ≡ keys
      → WritesKey (get bytes_eq s.slots) (get bytes_eq t.slots) key w
      → entry_at (keys_inside t) ≡ with_key key (option_map key_entry_of w) (entry_at keys)
  entry_at-set keys key w view sets =
      λ i q. (entry_at-keys_inside t q ∙ ap (option_map key_entry_of) (sets q)
      ∙ by q (bytes_eq key q) ∙ ap
      (λ k. with_key key (option_map key_entry_of w) (entry_at k) q) view) i
    where
      by : (q : List ℕ) (b : Bool)
          → option_map key_entry_of (cond b w (get bytes_eq s.slots q))
          ≡ cond b (option_map key_entry_of w) (entry_at (keys_inside s) q)
      by q true = refl
      by q false = sym (entry_at-keys_inside s q)

  pub plan_at-set : (keys : Keys) (key : List ℕ) (w : Option Spare) → keys_inside s ≡ keys
      → WritesKey (get bytes_eq s.spares) (get bytes_eq t.spares) key w
      → plan_at (keys_inside t) ≡ with_key key (option_map plan_of w) (plan_at keys)
  plan_at-set keys key w view sets =
      λ i q. (plan_at-keys_inside t q ∙ ap (option_map plan_of) (sets q) ∙ by q (bytes_eq key q)
      ∙ ap (λ k. with_key key (option_map plan_of w) (plan_at k) q) view) i
    where
      by : (q : List ℕ) (b : Bool)
          → option_map plan_of (cond b w (get bytes_eq s.spares q))
          ≡ cond b (option_map plan_of w) (plan_at (keys_inside s) q)
      by q true = refl
      by q false = sym (plan_at-keys_inside s q)

  -- where the spares stay, what is prepared stays
  pub plan_at-same : (keys : Keys) → keys_inside s ≡ keys → t.spares.entries ≡ s.spares.entries
      → plan_at (keys_inside t) ≡ plan_at keys
  plan_at-same keys view same =
      λ i q. (plan_at-keys_inside t q ∙ ap (λ es. option_map plan_of (lookup (bytes_eq q) es)) same
      ∙ sym (plan_at-keys_inside s q) ∙ ap (λ k. plan_at k q) view) i

  -- what is kept stays so after a change of the slots at one key
  pub IsKeySpace-set : (key : List ℕ) (w : Option Slot) → IsKeySpace s → t.moment ≡ s.moment
      → t.spares ≡ s.spares → WritesKey (get bytes_eq s.slots) (get bytes_eq t.slots) key w
      → AreExpiries t.slots.entries t.expiries → index_map_len t.slots ≤ index_map_len s.slots
      → length t.expiries ≡ length s.expiries → spare s.slots ≤ spare t.slots
      → ForSome w (IsLiveSlot t.moment)
      → (IsRoomFor (get bytes_eq s.slots key) → IsRoomFor w)
      → IsKeySpace t
  IsKeySpace-set key w kept moment spares sets expiries fewer places room sound room_for = record {
    moment = subst (λ m. m ≤ last_moment) (sym moment) kept.moment;
    slots = at_each-with_key (λ q o. ForSome o (IsLiveSlot t.moment))
        (get bytes_eq s.slots) (get bytes_eq t.slots) key w sets sound (λ q slot at.
        subst (λ (m : ℕ). IsLiveSlot m slot) (sym moment) (kept.slots q slot at));
    expiries = expiries;
    places = omega (arith, ap (λ m. index_map_len m) spares, fewer, places, kept.places);
    room = subst (λ (m : IndexMap (List ℕ) Spare _). index_map_len m ≤ spare t.slots) (sym spares)
        (le_trans kept.room room);
    ready = subst (λ (m : IndexMap (List ℕ) Spare _). (q : List ℕ)
        → ForSome (get bytes_eq m q) (IsReadySpare (get bytes_eq t.slots q))) (sym spares)
        (at_each-with_key (λ q o. ForSome (get bytes_eq s.spares q) (IsReadySpare o))
        (get bytes_eq s.slots) (get bytes_eq t.slots) key w sets
        (λ p at. let r = kept.ready key p at in
        record { spare = r.spare; room = room_for r.room })
        kept.ready);
  }

-- a write through what `get_mut` lends leaves the expiry
pub AreExpiries-through : (s t : Inside) (key : List ℕ) (u w : Slot) → IsKeySpace s
    → t.expiries ≡ s.expiries → Some u ≡ get bytes_eq s.slots key
    → t.slots.entries ≡ set_value (bytes_eq key) s.slots.entries w → w.expiry ≡ u.expiry
    → AreExpiries t.slots.entries t.expiries
AreExpiries-through s t key u w kept expiries found writes same =
    subst (AreExpiries t.slots.entries) (sym expiries)
    (subst (λ es. AreExpiries es s.expiries) (sym writes)
    (AreExpiries-written (bytes_eq key) s.slots.entries s.expiries u w found same kept.expiries))

-- a new slot is last, and has no expiry
pub AreExpiries-pushed : (es fs : List (List ℕ × Slot)) (ds : List ℕ) (key : List ℕ)
    (value : Stored) → AreExpiries es ds → fs ≡ es ++ (key, new_slot value) ∷ []
    → length es < length ds → AreExpiries fs ds
AreExpiries-pushed es fs ds key value h pushed room =
    subst (λ xs. AreExpiries xs ds) (sym pushed) (AreExpiries-push es ds key value h room)

-- where no key is shown, no slot is
pub slot_absent : (s : Inside) (keys : Keys) (key : List ℕ) → keys_inside s ≡ keys
    → entry_at keys key ≡ None → get bytes_eq s.slots key ≡ None
slot_absent s keys key view absent = by (get bytes_eq s.slots key) refl
  where
    by : (o : Option Slot) → o ≡ get bytes_eq s.slots key → o ≡ None
    by None read = refl
    by (Some u) read = absurd (cc (absent, entry_at-read s keys key (Some u) view read))

-- a key is shown exactly where a slot is
pub is_some-entry_at : (keys : Keys) (key : List ℕ) (o : Option Slot)
    → entry_at keys key ≡ option_map key_entry_of o → is_some o ≡ is_some (entry_at keys key)
is_some-entry_at keys key None e = sym (ap is_some e)
is_some-entry_at keys key (Some slot) e = sym (ap is_some e)

-- what was written through `get_mut` stands at the key
pub sets_written : {X S : Type 0} (m n : IndexMap (List ℕ) X S) (key : List ℕ) (u w : X)
    → Some u ≡ get bytes_eq m key → WritesThrough bytes_eq (bytes_eq key) m w n → (q : List ℕ)
    → get bytes_eq n q ≡ with_key key (Some w) (get bytes_eq m) q
sets_written m n key u w found writes = (writes.3 (sym (ap is_some found))).0

-- room in a slot stays room where its value keeps room
pub IsRoomFor-some : (o : Option Slot) (u w : Slot) → Some u ≡ o
    → (HasRoom u.value → HasRoom w.value) → IsRoomFor o → IsRoomFor (Some w)
IsRoomFor-some o u w found keeps room = keeps (subst IsRoomFor (sym found) room)

-- a slot with an expiry ahead
pub IsLiveSlot-expiring : (moment expiry : ℕ) (slot : Slot) → IsLiveSlot moment slot
    → moment < expiry → expiry ≤ last_moment + longest_lease
    → IsLiveSlot moment (record slot { expiry = Some expiry })
IsLiveSlot-expiring moment expiry slot sound ahead near = record {
  ahead = λ e at. let same : expiry ≡ e = cc in omega arith;
  near = λ e at. let same : expiry ≡ e = cc in omega arith;
  some = sound.some;
  few = sound.few;
}

-- a fact of the value in a `Some`
pub ForSome-some : {X : Type 0} (P : X → Type 0) (w : X) → P w → ForSome (Some w) P
ForSome-some P w h = λ x at. subst P (cc at) h

module _ (s t : Inside) (old : Keys) (key : List ℕ) (o w : Option Slot) where
  -- a change of one slot, as a change of what is shown at the key
  pub entry_at-changed : (change : Option KeyEntry → Option KeyEntry) → keys_inside s ≡ old
      → o ≡ get bytes_eq s.slots key → WritesKey (get bytes_eq s.slots) (get bytes_eq t.slots) key w
      → option_map key_entry_of w ≡ change (option_map key_entry_of o)
      → entry_at (keys_inside t) ≡ with_key key (change (entry_at old key)) (entry_at old)
  entry_at-changed change view found sets changed =
      entry_at-set s t old key w view sets
      ∙ ap (λ e. with_key key e (entry_at old))
      (changed ∙ ap change (sym (entry_at-read s old key o view found)))

module _ (s t : Inside) (key : List ℕ) (w : Slot) (spent : Bool) where
  -- what is kept stays so once a key has a new member, and what was prepared for that is spent
  pub IsKeySpace-grown : IsKeySpace s → t.moment ≡ s.moment
      → WritesKey (get bytes_eq s.slots) (get bytes_eq t.slots) key (Some w)
      → ((q : List ℕ) → get bytes_eq t.spares q
      ≡ without_key_if spent key (get bytes_eq s.spares) q)
      → AreExpiries t.slots.entries t.expiries
      → index_map_len t.slots + index_map_len t.spares ≤ length t.expiries
      → index_map_len t.spares ≤ spare t.slots → IsLiveSlot t.moment w
      → (spent ≡ false → IsRoomFor (get bytes_eq s.slots key) → IsRoomFor (Some w))
      → IsKeySpace t
  IsKeySpace-grown kept moment sets spends expiries places room sound room_for = record {
    moment = subst (λ m. m ≤ last_moment) (sym moment) kept.moment;
    slots = at_each-with_key (λ q o. ForSome o (IsLiveSlot t.moment))
        (get bytes_eq s.slots) (get bytes_eq t.slots) key (Some w) sets
        (λ x at. subst (IsLiveSlot t.moment) (cc at) sound)
        (λ q slot at. subst (λ (m : ℕ). IsLiveSlot m slot) (sym moment) (kept.slots q slot at));
    expiries = expiries;
    places = places;
    room = room;
    ready = at_each-with_key (λ q o. ForSome (get bytes_eq t.spares q) (IsReadySpare o))
        (get bytes_eq s.slots) (get bytes_eq t.slots) key (Some w) sets (here spent spends room_for)
        (there spent spends);
  }
    where
      there : (b : Bool) → ((q : List ℕ)
          → get bytes_eq t.spares q ≡ without_key_if b key (get bytes_eq s.spares) q) → (q : List ℕ)
          → ForSome (get bytes_eq t.spares q) (IsReadySpare (get bytes_eq s.slots q))
      there true spends = at_each-with_key
          (λ q o. ForSome o (IsReadySpare (get bytes_eq s.slots q))) (get bytes_eq s.spares)
          (get bytes_eq t.spares) key None spends (λ p at. absurd (cc at)) kept.ready
      there false spends = λ q p at. kept.ready q p (sym (spends q) ∙ at)

      here : (b : Bool) → ((q : List ℕ)
          → get bytes_eq t.spares q ≡ without_key_if b key (get bytes_eq s.spares) q)
          → (b ≡ false → IsRoomFor (get bytes_eq s.slots key) → IsRoomFor (Some w))
          → ForSome (get bytes_eq t.spares key) (IsReadySpare (Some w))
      here true spends room_for = λ p at. let gone =
          with_key-same key None (get bytes_eq s.spares) in let e = spends key in
          absurd (cc (gone, e, at))
      here false spends room_for = λ p at. let r = kept.ready key p (sym (spends key) ∙ at) in
          record { spare = r.spare; room = room_for refl r.room }

-- a value that changed, which has a member and no more than a key may have
pub IsLiveSlot-changed : (moment : ℕ) (u : Slot) (x : Stored) (content : Content)
    → IsLiveSlot moment u → content_of x ≡ content → 0 < member_count content
    → member_count content ≤ member_limit → IsLiveSlot moment (record u { value = x })
IsLiveSlot-changed moment u x content sound same some few = record {
  ahead = sound.ahead;
  near = sound.near;
  some = subst (λ (v : Content). 0 < member_count v) (sym same) some;
  few = subst (λ (v : Content). member_count v ≤ member_limit) (sym same) few;
}

-- a slot that is shown as before is as sound
pub IsLiveSlot-same : (moment : ℕ) (u : Slot) (x : Stored) → content_of x ≡ content_of u.value
    → IsLiveSlot moment u → IsLiveSlot moment (record u { value = x })
IsLiveSlot-same moment u x same sound =
    subst (λ (v : Content). IsLive moment (record { value = v; expiry = u.expiry }))
    (sym same) sound

-- a value with a new member, where it has fewer than a key may have
pub IsLiveSlot-with : (moment : ℕ) (u : Slot) (x : Stored) (addition : Addition)
    → IsLiveSlot moment u → content_of x ≡ content_with addition (content_of u.value)
    → member_count (content_of u.value) < member_limit → IsLiveSlot moment (record u { value = x })
IsLiveSlot-with moment u x addition sound same few =
    IsLiveSlot-changed moment u x (content_with addition (content_of u.value)) sound same
    (some-content_with addition (content_of u.value) sound.some)
    (omega (arith, member_count-with addition (content_of u.value), few))

-- and one where the member was there
pub IsLiveSlot-there : (moment : ℕ) (u : Slot) (x : Stored) (addition : Addition)
    → IsLiveSlot moment u → content_of x ≡ content_with addition (content_of u.value)
    → HasMember addition (content_of u.value) → IsLiveSlot moment (record u { value = x })
IsLiveSlot-there moment u x addition sound same there =
    IsLiveSlot-changed moment u x (content_with addition (content_of u.value)) sound same
    (some-content_with addition (content_of u.value) sound.some)
    (le_trans (member_count-there addition (content_of u.value) there) sound.few)

-- a new member, or none where there was no memory for it
pub IsLiveSlot-added : {T E : Type 0} (r : Result T E) (moment : ℕ) (u : Slot) (x : Stored)
    (addition : Addition) → IsLiveSlot moment u
    → OnOk r (content_of x ≡ content_with addition (content_of u.value))
    → OnErr r (content_of x ≡ content_of u.value)
    → member_count (content_of u.value) < member_limit → IsLiveSlot moment (record u { value = x })
IsLiveSlot-added (Ok v) moment u x addition sound wrote same few =
    IsLiveSlot-with moment u x addition sound wrote few
IsLiveSlot-added (Err e) moment u x addition sound wrote same few =
    IsLiveSlot-same moment u x same sound

-- what `get_mut` lends is what the table has
pub IsSome-lent : {X : Type 0} (r : Option (MutBor X)) (o : Option X) → option_copied_mut r ≡ o
    → IsSome o → IsSome r
IsSome-lent None o e there = absurd (true≢false (sym there ∙ sym (ap is_some e)))
IsSome-lent (Some x) o e there = refl

-- a slot is there where what is shown has the member
pub IsSome-member : (keys : Keys) (key : List ℕ) (addition : Addition) (o : Option Slot)
    → entry_at keys key ≡ option_map key_entry_of o → HasMemberAt addition (entry_at keys key)
    → IsSome o
IsSome-member keys key addition None e there = absurd (subst (HasMemberAt addition) e there)
IsSome-member keys key addition (Some slot) e there = refl

-- what is prepared, once the memory for a member is spent or not
pub plan_at-spent : (s t : Inside) (old : Keys) (key : List ℕ) (spent : Bool) → keys_inside s ≡ old
    → ((q : List ℕ) → get bytes_eq t.spares q ≡ without_key_if spent key (get bytes_eq s.spares) q)
    → plan_at (keys_inside t) ≡ without_key_if spent key (plan_at old)
plan_at-spent s t old key true view spends = plan_at-set s t old key None view spends
plan_at-spent s t old key false view spends =
    λ i q. (plan_at-keys_inside t q ∙ ap (option_map plan_of) (spends q)
    ∙ sym (plan_at-keys_inside s q) ∙ ap (λ k. plan_at k q) view) i

-- a slot that is shown as before leaves what is shown
pub key_entries_of-set_value : (test : List ℕ → Bool) (es : List (List ℕ × Slot)) (u w : Slot)
    → lookup test es ≡ Some u → key_entry_of w ≡ key_entry_of u
    → key_entries_of (set_value test es w) ≡ key_entries_of es
key_entries_of-set_value test [] u w found same = refl
key_entries_of-set_value test (e ∷ es) u w found same =
    by (test e.0) found (key_entries_of-set_value test es u w)
  where
    by : (b : Bool) → cond b (Some e.1) (lookup test es) ≡ Some u
        → (lookup test es ≡ Some u → key_entry_of w ≡ key_entry_of u
        → key_entries_of (set_value test es w) ≡ key_entries_of es)
        → key_entries_of (cond b ((e.0, w) ∷ es) (e ∷ set_value test es w))
        ≡ key_entries_of (e ∷ es)
    by true here rest = let one : e.1 ≡ u = cc here in
        ap (λ (x : KeyEntry). (e.0, x) ∷ key_entries_of es) (same ∙ ap key_entry_of (sym one))
    by false there rest = ap (λ l. (e.0, key_entry_of e.1) ∷ l) (rest there same)

pub keys_inside-same : (s t : Inside) → t.moment ≡ s.moment → t.spares ≡ s.spares
    → key_entries_of t.slots.entries ≡ key_entries_of s.slots.entries
    → keys_inside t ≡ keys_inside s
keys_inside-same s t moment spares entries =
    λ i. record { moment = moment i; entries = entries i; plans = plans_of (spares i).entries }

-- two kinds that the test finds the same are the same
same_kind : (a b : ValueKind) → is_same_kind a b ≡ true → a ≡ b
same_kind HashKind HashKind e = refl
same_kind ListKind ListKind e = refl
same_kind Zset Zset e = refl
same_kind CounterKind CounterKind e = refl
same_kind HashKind ListKind e = absurd (true≢false (sym e))
same_kind HashKind Zset e = absurd (true≢false (sym e))
same_kind HashKind CounterKind e = absurd (true≢false (sym e))
same_kind ListKind HashKind e = absurd (true≢false (sym e))
same_kind ListKind Zset e = absurd (true≢false (sym e))
same_kind ListKind CounterKind e = absurd (true≢false (sym e))
same_kind Zset HashKind e = absurd (true≢false (sym e))
same_kind Zset ListKind e = absurd (true≢false (sym e))
same_kind Zset CounterKind e = absurd (true≢false (sym e))
same_kind CounterKind HashKind e = absurd (true≢false (sym e))
same_kind CounterKind ListKind e = absurd (true≢false (sym e))
same_kind CounterKind Zset e = absurd (true≢false (sym e))

-- memory that was taken for a kind and a member is there
pub planned : (kind : ValueKind) (member : List ℕ) (o : Option Spare)
    → is_plan_for kind member (option_map plan_of o) ≡ true
    → (p : Spare) × (o ≡ Some p) × (kind ≡ p.kind)
planned kind member None e = absurd (true≢false (sym e))
planned kind member (Some p) e =
    (p, refl, same_kind kind p.kind (left (is_same_kind kind p.kind) e))
  where
    left : (b : Bool) → (b && bytes_eq member p.member) ≡ true → b ≡ true
    left true _ = refl
    left false h = h

-- so a key that is there has room for a member
pub HasRoom-planned : (s : Inside) (old : Keys) (key member : List ℕ) (kind : ValueKind) (u : Slot)
    → IsKeySpace s → keys_inside s ≡ old → Some u ≡ get bytes_eq s.slots key
    → is_plan_for kind member (plan_at old key) ≡ true → HasRoom u.value
HasRoom-planned s old key member kind u kept view found for =
    let plan = planned kind member (get bytes_eq s.spares key)
    (ap (is_plan_for kind member) (sym (plan_at-read s old key _ view refl)) ∙ for) in
    subst IsRoomFor (sym found) (kept.ready key plan.0 plan.1).room

-- what follows from a fact beside a `Result`
pub OnOk-then : {T E P Q : Type 0} (r : Result T E) → (P → Q) → OnOk r P → OnOk r Q
OnOk-then (Ok x) f p = f p
OnOk-then (Err e) f p = tt

pub OnErr-then : {T E P Q : Type 0} (r : Result T E) → (P → Q) → OnErr r P → OnErr r Q
OnErr-then (Ok x) f p = tt
OnErr-then (Err e) f p = f p

-- more room and more places for keys leave what is kept
pub IsKeySpace-roomier : (s t : Inside) → IsKeySpace s → t.moment ≡ s.moment
    → t.spares ≡ s.spares → t.slots.entries ≡ s.slots.entries
    → AreExpiries t.slots.entries t.expiries → length s.expiries ≤ length t.expiries
    → spare s.slots ≤ spare t.slots → IsKeySpace t
IsKeySpace-roomier s t kept moment spares entries expiries places room = record {
  moment = subst (λ m. m ≤ last_moment) (sym moment) kept.moment;
  slots = λ key slot at. subst (λ (m : ℕ). IsLiveSlot m slot) (sym moment)
      (kept.slots key slot (ap (lookup (bytes_eq key)) (sym entries) ∙ at));
  expiries = expiries;
  places = omega (
    arith,
    ap (λ m. index_map_len m) spares,
    ap length entries,
    places,
    kept.places,
  );
  room = le_trans (subst (λ (n : ℕ). n ≤ spare s.slots)
      (ap (λ m. index_map_len m) (sym spares)) kept.room) room;
  ready = λ key p at. subst (λ (o : Option Slot). IsReadySpare o p)
      (ap (lookup (bytes_eq key)) (sym entries))
      (kept.ready key p (ap (λ m. get bytes_eq m key) (sym spares) ∙ at));
}

-- a key with one member is live
pub IsLive-made : (moment : ℕ) (value : Stored) (addition : Addition)
    → content_of value ≡ content_made addition → IsLiveSlot moment (new_slot value)
IsLive-made moment value addition is =
    let one : member_count (content_of value) ≡ 1 = ap member_count is
    ∙ member_count-made addition in
    record {
      ahead = λ e at. absurd (cc at);
      near = λ e at. absurd (cc at);
      some = omega (arith, one);
      few = omega (arith, one);
    }

-- a key that is made, as a change of what is shown
pub entry_at-made : (s t : Inside) (old : Keys) (key : List ℕ) (value : Stored)
    (addition : Addition) → keys_inside s ≡ old → entry_at old key ≡ None
    → WritesKey (get bytes_eq s.slots) (get bytes_eq t.slots) key (Some (new_slot value))
    → content_of value ≡ content_made addition
    → entry_at (keys_inside t)
    ≡ with_key key (Some (entry_with addition (entry_at old key))) (entry_at old)
entry_at-made s t old key value addition view absent sets is =
    entry_at-set s t old key (Some (new_slot value)) view sets
    ∙ ap (λ v. with_key {X = KeyEntry} key (Some (record { value = v; expiry = None }))
    (entry_at old)) is
    ∙ ap (λ e. with_key key (Some (entry_with addition e)) (entry_at old)) (sym absent)

-- memory that was taken for a key, as the spares have it
pub planned_spare : (s : Inside) (old : Keys) (key member : List ℕ) (kind : ValueKind)
    → keys_inside s ≡ old → is_plan_for kind member (plan_at old key) ≡ true
    → (p : Spare) × (get bytes_eq s.spares key ≡ Some p) × (kind ≡ p.kind)
planned_spare s old key member kind view for =
    planned kind member (get bytes_eq s.spares key)
    (ap (is_plan_for kind member) (sym (plan_at-read s old key _ view refl)) ∙ for)

pub IsSome-planned : (s : Inside) (old : Keys) (key member : List ℕ) (kind : ValueKind)
    → keys_inside s ≡ old → is_plan_for kind member (plan_at old key) ≡ true
    → IsSome (get bytes_eq s.spares key)
IsSome-planned s old key member kind view for =
    ap is_some (planned_spare s old key member kind view for).1

-- the memory for a member of this kind
pub IsSpareFor-planned : (s : Inside) (old : Keys) (key member : List ℕ) (kind : ValueKind)
    (p : Spare) → IsKeySpace s → keys_inside s ≡ old
    → is_plan_for kind member (plan_at old key) ≡ true → get bytes_eq s.spares key ≡ Some p
    → IsSpareFor kind p.value
IsSpareFor-planned s old key member kind p kept view for at =
    let plan = planned_spare s old key member kind view for in
    let same : plan.0 ≡ p = cc (plan.1, at) in
    let of_kind : kind ≡ p.kind = plan.2 ∙ ap (λ (x : Spare). x.kind) same in
    subst (λ (k : ValueKind). IsSpareFor k p.value) (sym of_kind) (kept.ready key p at).spare

-- a change of one slot, after which the key is gone or not
pub sets_then_gone : (f g h : List ℕ → Option Slot) (key : List ℕ) (w : Slot) (gone : Bool)
    → ((q : List ℕ) → g q ≡ with_key key (Some w) f q)
    → ((q : List ℕ) → h q ≡ (if gone then with_key key None g else g) q) → (q : List ℕ)
    → h q ≡ with_key key (if gone then None else Some w) f q
sets_then_gone f g h key w true sets goes q =
    goes q ∙ ap (λ o. cond (bytes_eq key q) None o) (sets q) ∙ by (bytes_eq key q)
  where
    by : (b : Bool) → cond {A = Option Slot} b None (cond b (Some w) (f q)) ≡ cond b None (f q)
    by true = refl
    by false = refl
sets_then_gone f g h key w false sets goes q = goes q ∙ sets q

-- a value with a member less that isn't empty is one that a key may hold
pub IsLiveSlot-without : (moment : ℕ) (u : Slot) (x : Stored) (kind : ValueKind)
    (member : List ℕ) (emptied : Bool) → IsLiveSlot moment u
    → emptied ≡ is_empty (content_without kind member (content_of u.value))
    → (emptied ≡ false → content_of x ≡ content_without kind member (content_of u.value))
    → ForSome (if emptied then None else Some (record u { value = x })) (IsLiveSlot moment)
IsLiveSlot-without moment u x kind member true sound empty same = λ w at. absurd (cc at)
IsLiveSlot-without moment u x kind member false sound empty same =
    ForSome-some (IsLiveSlot moment) (record u { value = x })
    (IsLiveSlot-changed moment u x (content_without kind member (content_of u.value)) sound
    (same refl) (some_members (content_without kind member (content_of u.value)) (sym empty))
    (le_trans (member_count-without kind member (content_of u.value)) sound.few))

pub IsRoomFor-without : (o : Option Slot) (u w : Slot) (emptied : Bool) → Some u ≡ o
    → (HasRoom u.value → HasRoom w.value) → IsRoomFor o
    → IsRoomFor (if emptied then None else Some w)
IsRoomFor-without o u w true found keeps room = tt
IsRoomFor-without o u w false found keeps room = IsRoomFor-some o u w found keeps room

pub key_entry_of-without : (u : Slot) (x : Stored) (kind : ValueKind) (member : List ℕ)
    (emptied : Bool) → emptied ≡ is_empty (content_without kind member (content_of u.value))
    → (emptied ≡ false → content_of x ≡ content_without kind member (content_of u.value))
    → option_map key_entry_of (if emptied then None else Some (record u { value = x }))
    ≡ entry_without kind member (Some (key_entry_of u))
key_entry_of-without u x kind member true empty same =
    ap (λ (b : Bool). if b then None else Some (record {
      value = content_without kind member (content_of u.value);
      expiry = u.expiry;
    })) empty
key_entry_of-without u x kind member false empty same =
    ap (λ v. Some (record { value = v; expiry = u.expiry })) (same refl)
    ∙ ap (λ (b : Bool). if b then None else Some (record {
      value = content_without kind member (content_of u.value);
      expiry = u.expiry;
    })) empty

-- a hash with as many fields as a key may have takes no new one
pub field_after_increment-full : (field : List ℕ) (by : ℤ) (entry : Option KeyEntry)
    → seen (field_value field) (hash_at entry) ≡ Ok None
    → nat_lt (count_at entry) member_limit ≡ false
    → field_after_increment field by (hash_at entry) ≡ Err TooMany
field_after_increment-full field by entry absent full = in_entry entry absent full
  where
    in_pairs : (pairs : Pairs) → field_value field pairs ≡ None
        → nat_lt (length pairs) member_limit ≡ false
        → field_after_increment field by (Ok pairs) ≡ Err TooMany
    in_pairs pairs none many =
        ap (number_after_increment by (nat_lt (length pairs) member_limit)) none
        ∙ ap (λ (b : Bool). if b then Ok by else Err TooMany) many

    in_value : (value : Content) → seen (field_value field) (hash_in value) ≡ Ok None
        → nat_lt (member_count value) member_limit ≡ false
        → field_after_increment field by (hash_in value) ≡ Err TooMany
    in_value (Fields pairs) none many = in_pairs pairs (cc none) many
    in_value (Items items) none many = absurd (cc none)
    in_value (Members members) none many = absurd (cc none)
    in_value (Number n) none many = absurd (cc none)

    in_entry : (e : Option KeyEntry) → seen (field_value field) (hash_at e) ≡ Ok None
        → nat_lt (count_at e) member_limit ≡ false
        → field_after_increment field by (hash_at e) ≡ Err TooMany
    in_entry None none many = in_pairs [] refl many
    in_entry (Some e) none many = in_value e.value none many

-- and a sorted set with as many members takes no new one
pub is_new_member-full : (member : List ℕ) (entry : Option KeyEntry)
    → score_at member entry ≡ Ok None → nat_lt (count_at entry) member_limit ≡ false
    → is_new_member member (zset_at entry) ≡ Err TooMany
is_new_member-full member entry absent full = in_entry entry absent full
  where
    in_members : (members : Scores) → score_of member members ≡ None
        → nat_lt (length members) member_limit ≡ false
        → is_new_member member (Ok members) ≡ Err TooMany
    in_members members none many =
        ap (is_new_score (nat_lt (length members) member_limit)) none
        ∙ ap (λ (b : Bool). if b then Ok true else Err TooMany) many

    in_value : (value : Content) → seen (score_of member) (zset_in value) ≡ Ok None
        → nat_lt (member_count value) member_limit ≡ false
        → is_new_member member (zset_in value) ≡ Err TooMany
    in_value (Fields pairs) none many = absurd (cc none)
    in_value (Items items) none many = absurd (cc none)
    in_value (Members members) none many = in_members members (cc none) many
    in_value (Number n) none many = absurd (cc none)

    in_entry : (e : Option KeyEntry) → score_at member e ≡ Ok None
        → nat_lt (count_at e) member_limit ≡ false → is_new_member member (zset_at e) ≡ Err TooMany
    in_entry None none many = in_members [] refl many
    in_entry (Some e) none many = in_value e.value none many

-- where the slots are shown as before, the entries stay
pub entry_at-same : (s t : Inside) (keys : Keys) → keys_inside s ≡ keys
    → key_entries_of t.slots.entries ≡ key_entries_of s.slots.entries
    → entry_at (keys_inside t) ≡ entry_at keys
unfolding entry_at
entry_at-same s t keys view same = (λ i key. lookup (bytes_eq key) (same i)) ∙ ap entry_at view

-- what was written through `get_mut` keeps the slots, where it is shown as before
pub KeepsSlot-written : {S : Type 0} (m n : IndexMap (List ℕ) Slot S) (key : List ℕ) (u w : Slot)
    → Some u ≡ get bytes_eq m key → WritesThrough bytes_eq (bytes_eq key) m w n
    → key_entry_of w ≡ key_entry_of u → (HasRoom u.value → HasRoom w.value) → (q : List ℕ)
    → KeepsSlot (get bytes_eq m q) (get bytes_eq n q)
KeepsSlot-written m n key u w found writes same keeps =
    at_each-with_key (λ q o. KeepsSlot (get bytes_eq m q) o) (get bytes_eq m) (get bytes_eq n) key
    (Some w) (sets_written m n key u w found writes)
    (subst (λ (o : Option Slot). KeepsSlot o (Some w)) found (same, keeps))
    (λ q. as_it_was (get bytes_eq m q))
  where
    as_it_was : (o : Option Slot) → KeepsSlot o o
    as_it_was None = tt
    as_it_was (Some x) = (refl, λ room. room)

-- a slot that is kept is as sound, and has what room it had
IsLiveSlot-KeepsSlot : (moment : ℕ) (o p : Option Slot) → KeepsSlot o p
    → ForSome o (IsLiveSlot moment) → ForSome p (IsLiveSlot moment)
IsLiveSlot-KeepsSlot moment o None kept sound = λ w at. absurd (cc at)
IsLiveSlot-KeepsSlot moment None (Some w) kept sound = absurd kept
IsLiveSlot-KeepsSlot moment (Some u) (Some w) kept sound =
    ForSome-some (IsLiveSlot moment) w (subst (IsLive moment) (sym kept.0) (sound u refl))

IsRoomFor-KeepsSlot : (o p : Option Slot) → KeepsSlot o p → IsRoomFor o → IsRoomFor p
IsRoomFor-KeepsSlot o None kept room = tt
IsRoomFor-KeepsSlot None (Some w) kept room = absurd kept
IsRoomFor-KeepsSlot (Some u) (Some w) kept room = IsRoomFor-some (Some u) u w refl kept.1 room

-- what is kept stays so where each slot is, and the spares are as before
pub IsKeySpace-KeepsSlot : (s t : Inside) → IsKeySpace s → t.moment ≡ s.moment
    → t.expiries ≡ s.expiries → t.spares.entries ≡ s.spares.entries
    → key_entries_of t.slots.entries ≡ key_entries_of s.slots.entries
    → ((q : List ℕ) → KeepsSlot (get bytes_eq s.slots q) (get bytes_eq t.slots q))
    → spare s.slots ≤ spare t.slots → IsKeySpace t
IsKeySpace-KeepsSlot s t kept moment expiries spares shown slots room = record {
  moment = subst (λ m. m ≤ last_moment) (sym moment) kept.moment;
  slots = λ key slot at. subst (λ (m : ℕ). IsLiveSlot m slot) (sym moment)
      (IsLiveSlot-KeepsSlot s.moment (get bytes_eq s.slots key)
      (get bytes_eq t.slots key) (slots key) (kept.slots key) slot at);
  expiries = subst (AreExpiries t.slots.entries) (sym expiries)
      (AreExpiries-shown s.slots.entries t.slots.entries s.expiries shown kept.expiries);
  places = omega (
    arith,
    length_shown s.slots.entries t.slots.entries shown,
    ap length expiries,
    ap length spares,
    kept.places,
  );
  room = le_trans (subst (λ (n : ℕ). n ≤ spare s.slots) (ap length (sym spares)) kept.room) room;
  ready = λ key p at. let r = kept.ready key p (ap (lookup (bytes_eq key)) (sym spares) ∙ at) in
      record {
        spare = r.spare;
        room = IsRoomFor-KeepsSlot (get bytes_eq s.slots key) (get bytes_eq t.slots key)
            (slots key) r.room;
      };
}

-- and where memory for a member of one key is added
pub IsKeySpace-prepared : (s t : Inside) (key : List ℕ) (p : Spare) → IsKeySpace s
    → t.moment ≡ s.moment → t.expiries ≡ s.expiries → t.slots ≡ s.slots
    → WritesKey (get bytes_eq s.spares) (get bytes_eq t.spares) key (Some p)
    → index_map_len t.slots + index_map_len t.spares ≤ length t.expiries
    → index_map_len t.spares ≤ spare t.slots → IsReadySpare (get bytes_eq t.slots key) p
    → IsKeySpace t
IsKeySpace-prepared s t key p kept moment expiries slots sets places room ready = record {
  moment = subst (λ m. m ≤ last_moment) (sym moment) kept.moment;
  slots = λ q slot at. subst (λ (m : ℕ). IsLiveSlot m slot) (sym moment)
      (kept.slots q slot (ap (λ m. get bytes_eq m q) (sym slots) ∙ at));
  expiries = subst (λ es. AreExpiries es t.expiries) (ap (λ m. m.entries) (sym slots))
      (subst (AreExpiries s.slots.entries) (sym expiries) kept.expiries);
  places = places;
  room = room;
  ready = at_each-with_key (λ q o. ForSome o (IsReadySpare (get bytes_eq t.slots q)))
      (get bytes_eq s.spares) (get bytes_eq t.spares) key (Some p) sets
      (ForSome-some (IsReadySpare (get bytes_eq t.slots key)) p ready)
      (λ q x at. subst (λ (o : Option Slot). IsReadySpare o x)
      (ap (λ m. get bytes_eq m q) (sym slots)) (kept.ready q x at));
}

-- what a key that was there adds to the number of keys
pub one_at_most : (b : Bool) → (if b then 0 else 1) ≤ 1
one_at_most true = omega arith
one_at_most false = omega arith
