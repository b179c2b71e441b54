-- The expiries of the keys that are shown, as they stand by place.
use Rattle.std.proofs.Common.{◌≡◌, ◌≢◌, ◌≤◌, ◌<◌, ◌+◌, ℕ, pos, Bool, true, false, nat_lt, List, [], Option, Some, None, length, slice_index, get_or, refl, sym, ap, subst, ◌∙◌, arith}
use Rattle.std.specs.Cmp.Lexicographic.{nat_list_eq_equiv}
use Rattle.std.specs.Option.{ForSome, option_and_then, option_map}
use Rattle.std.specs.Str.{bytes_eq}
use Rattle.std.proofs.lemmas.Bool.Decides.{nat_tests}
use Rattle.std.proofs.lemmas.Map.Entries.{lookup_from_place, place_from_lookup}
use Rattle.std.proofs.lemmas.Option.{get_or_from_slice_get, slice_get-get_or, slice_get_within}
use Rattle.indexmap.specs.IndexMap.{IsUnique, get}
use Rattle.lr_expiry.specs.declared.limits.TheConstants.{NO_EXPIRY}
use Rattle.lr_limits.specs.Limits.{last_moment, longest_lease}
use Rattle.lr_keys.specs.declared.key_space.KeySpace.TheInside.{Inside}
use Rattle.lr_keys.specs.declared.slot.Slot.{Slot}
use Rattle.lr_keys.specs.declared.slot.Stored.TheVariants.{Counter}
use Rattle.lr_keys.specs.KeySpace.{Keys, KeyEntry, expiry_at}
use Rattle.lr_keys.specs.Slots.{AreExpiries, IsKeySpace, key_entry_of, keys_inside, moment_of, new_slot}
use Rattle.lr_keys.proofs.SlotLemmas.{entry_at-read}

-- the expiry of a key is that of its slot
expiry_at-read : (s : Inside) (keys : Keys) (key : List ℕ) (o : Option Slot) → keys_inside s ≡ keys
    → o ≡ get bytes_eq s.slots key → expiry_at keys key ≡ option_and_then (λ u. u.expiry) o
expiry_at-read s keys key o view read =
    ap (option_and_then (λ (e : KeyEntry). e.expiry)) (entry_at-read s keys key o view read) ∙ by o
  where
    by : (o : Option Slot) → option_and_then (λ (e : KeyEntry). e.expiry) (option_map key_entry_of o)
        ≡ option_and_then (λ (u : Slot). u.expiry) o
    by None = refl
    by (Some u) = refl

-- a bound of all places is one of all keys
pub expiry_at-least : (s : Inside) (keys : Keys) (least : ℕ) (key : List ℕ) → keys_inside s ≡ keys
    → AreExpiries s.slots.entries s.expiries
    → ((place : ℕ) → place < length s.expiries → least ≤ slice_index s.expiries place)
    → ForSome (expiry_at keys key) (λ expiry. least ≤ expiry)
expiry_at-least s keys least key view h bound = by (get bytes_eq s.slots key) refl
  where
    by : (o : Option Slot) → o ≡ get bytes_eq s.slots key
        → ForSome (expiry_at keys key) (λ expiry. least ≤ expiry)
    by None none = λ e at. absurd (cc (at, expiry_at-read s keys key None view none))
    by (Some u) found = λ e at.
        let place = place_from_lookup (bytes_eq key) s.slots.entries u (sym found) in
        let within = slice_get_within s.slots.entries place.0 (place.1, u) place.2 in
        let entry = get_or_from_slice_get s.slots.entries place.0 (place.1, u) (place.1, u) place.2
        in
        let expires : u.expiry ≡ Some e = sym (expiry_at-read s keys key (Some u) view found) ∙ at in
        let is : slice_index s.expiries place.0 ≡ e = h.each place.0 (place.1, u) within
        ∙ ap (λ (x : List ℕ × Slot). moment_of x.1.expiry) entry ∙ ap moment_of expires in
        subst (λ n. least ≤ n) is (bound place.0 (omega (arith, within, h.room)))

-- where no place has an expiry, no key has
pub expiry_at-none : (s : Inside) (keys : Keys) (least : ℕ) (key : List ℕ) → keys_inside s ≡ keys
    → IsKeySpace s
    → ((place : ℕ) → place < length s.expiries → least ≤ slice_index s.expiries place)
    → least ≡ NO_EXPIRY → expiry_at keys key ≡ None
expiry_at-none s keys least key view kept bound none =
    by (expiry_at keys key) refl
  where
    near : (o : Option Slot) → o ≡ get bytes_eq s.slots key → (e : ℕ)
        → expiry_at keys key ≡ Some e → e ≤ last_moment + longest_lease
    near None absent e at = absurd (cc (at, expiry_at-read s keys key None view absent))
    near (Some u) found e at =
        (kept.slots key u (sym found)).near e
        (sym (expiry_at-read s keys key (Some u) view found) ∙ at)

    by : (o : Option ℕ) → expiry_at keys key ≡ o → o ≡ None
    by None at = refl
    by (Some e) at =
        let late : least ≤ e = expiry_at-least s keys least key view kept.expiries bound e at in
        let early = near (get bytes_eq s.slots key) refl e at in
        absurd (omega (arith, late, early, none))

-- an expiry at a place is that of a key
pub expiry_at-some : (s : Inside) (keys : Keys) (least place : ℕ) → keys_inside s ≡ keys
    → AreExpiries s.slots.entries s.expiries → IsUnique bytes_eq s.slots
    → place < length s.expiries → slice_index s.expiries place ≡ least → least ≢ NO_EXPIRY
    → (key : List ℕ) × (expiry_at keys key ≡ Some least)
expiry_at-some s keys least place view h unique within is some = (entry.0, shown)
  where
    -- what is read past the slots
    other : List ℕ × Slot
    other = ([], new_slot (Counter (pos 0)))

    entry : List ℕ × Slot
    entry = get_or s.slots.entries place other

    below : place < length s.slots.entries
    below = by (nat_lt place (length s.slots.entries)) refl
      where
        by : (b : Bool) → nat_lt place (length s.slots.entries) ≡ b
            → place < length s.slots.entries
        by true e = grind (arith, nat_tests, e)
        by false e =
            let past : length s.slots.entries ≤ place = grind (arith, nat_tests, e) in
            absurd (some (sym is ∙ h.rest place past within))

    found : get bytes_eq s.slots entry.0 ≡ Some entry.1
    found = lookup_from_place nat_list_eq_equiv s.slots.entries place entry.0 entry.1 unique
        (slice_get-get_or s.slots.entries place other below)

    expires : moment_of entry.1.expiry ≡ least
    expires = sym (h.each place other below) ∙ is

    shown : expiry_at keys entry.0 ≡ Some least
    shown = expiry_at-read s keys entry.0 (Some entry.1) view (sym found)
        ∙ by entry.1.expiry expires
      where
        by : (o : Option ℕ) → moment_of o ≡ least → o ≡ Some least
        by None e = absurd (some (sym e))
        by (Some x) e = ap Some e
