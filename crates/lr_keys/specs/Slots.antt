-- How the fields of a key space, its slots and spares, stand for the keys that a contract sees.
use Rattle.std.specs.Prelude.{◌≡◌, ◌≤◌, ◌<◌, ◌+◌, ℕ, ℤ, List, [], ◌∷◌, Option, Some, None, ⊤, IsTrue, map, length, get_or, slice_index, if◌then◌else◌}
use Rattle.std.specs.Option.{ForSome}
use Rattle.std.specs.Str.{bytes_eq}
use Rattle.indexmap.specs.IndexMap.{get, spare, index_map_len}
use Rattle.lr_expiry.specs.declared.limits.TheConstants.{NO_EXPIRY}
use Rattle.lr_limits.specs.Limits.{last_moment}
use Rattle.lr_keys.specs.declared.slot.Slot.{Slot}
use Rattle.lr_keys.specs.declared.slot.Spare.{Spare}
use Rattle.lr_keys.specs.declared.slot.Stored.{Stored}
use Rattle.lr_keys.specs.declared.slot.Stored.TheVariants.{Single, Hash, List as ListValue, Zset, Counter}
use Rattle.lr_keys.specs.declared.value_kind.ValueKind.{ValueKind}
use Rattle.lr_keys.specs.declared.value_kind.ValueKind.TheVariants.{Hash as HashKind, List as ListKind, Zset as ZsetKind, Counter as CounterKind}
use Rattle.lr_keys.specs.declared.addition.Addition.{Addition}
use Rattle.lr_keys.specs.declared.addition.Addition.TheVariants.{Field, Item, Member, Number as NewNumber}
use Rattle.lr_sorted.specs.Members.{score_of}
use Rattle.lr_keys.specs.FieldMap.{field_value}
use Rattle.lr_keys.specs.declared.key_space.KeySpace.TheInside.{Inside}
use Rattle.lr_keys.specs.KeySpace.{Content, Fields, Items, Members, Number, KeyEntry, Plan, Keys, IsLive, is_ahead, is_there, seen, hash_in, zset_in, counter_in}

-- what a stored value is to a contract
abbrev pub content_of : Stored → Content
content_of (Single field number) = Fields ((field, number) ∷ [])
content_of (Hash fields) = Fields fields.value.pairs
content_of (ListValue list) = Items list.value.items
content_of (Zset set) = Members set.value.members
content_of (Counter n) = Number n

-- the field of a hash with no table
abbrev pub single_of : Stored → Option (List ℕ × ℤ)
single_of (Single field number) = Some (field, number)
single_of other = None

-- what a slot is
abbrev pub key_entry_of : Slot → KeyEntry
key_entry_of slot = record { value = content_of slot.value; expiry = slot.expiry }

-- what memory that was taken is
abbrev pub plan_of : Spare → Plan
plan_of s = record { kind = s.kind; member = s.member }

-- what all slots are
abbrev pub key_entries_of : List (List ℕ × Slot) → List (List ℕ × KeyEntry)
key_entries_of es = map (λ e. (e.0, key_entry_of e.1)) es

-- what all memory that was taken is
abbrev pub plans_of : List (List ℕ × Spare) → List (List ℕ × Plan)
plans_of es = map (λ e. (e.0, plan_of e.1)) es

-- the keys that the fields of a key space stand for
abbrev pub keys_inside : Inside → Keys
keys_inside s = record {
  moment = s.moment;
  entries = key_entries_of s.slots.entries;
  plans = plans_of s.spares.entries;
}

-- the value has what the addition gives a number or a score
abbrev pub HasMember : Addition → Content → Type 0
HasMember (Field field _) value = IsTrue (is_there (seen (field_value field) (hash_in value)))
HasMember (Item _) value = ⊥
HasMember (Member member _) value = IsTrue (is_there (seen (score_of member) (zset_in value)))
HasMember (NewNumber _) value = IsTrue (is_there (counter_in value))

-- the key has it
abbrev pub HasMemberAt : Addition → Option KeyEntry → Type 0
HasMemberAt addition None = ⊥
HasMemberAt addition (Some e) = HasMember addition e.value

-- the table of the value has room for so many new members
abbrev pub HasRoomFor : ℕ → Stored → Type 0
HasRoomFor more (Single _ _) = ⊤
HasRoomFor more (Hash fields) = more ≤ fields.value.room
HasRoomFor more (ListValue list) = more ≤ list.value.room
HasRoomFor more (Zset set) = more ≤ set.value.room
HasRoomFor more (Counter _) = ⊤

-- it has room for one
abbrev pub HasRoom : Stored → Type 0
HasRoom value = HasRoomFor 1 value

-- what that means where the key is there
abbrev pub IsRoomFor : Option Slot → Type 0
IsRoomFor None = ⊤
IsRoomFor (Some slot) = HasRoom slot.value

-- an empty value of the kind with room for two members: so a hash of one field can take a second
abbrev pub IsSpareFor : ValueKind → Stored → Type 0
IsSpareFor HashKind (Hash fields) = (fields.value.pairs ≡ []) × (2 ≤ fields.value.room)
IsSpareFor ListKind (ListValue list) = (list.value.items ≡ []) × (2 ≤ list.value.room)
IsSpareFor ZsetKind (Zset set) = (set.value.members ≡ []) × (2 ≤ set.value.room)
IsSpareFor CounterKind (Counter _) = ⊤
IsSpareFor _ _ = ⊥

-- with this memory the member can be made, whether the key is there or not
pub record IsReadySpare (slot : Option Slot) (s : Spare) : Type 0 where
  pub spare : IsSpareFor s.kind s.value
  pub room : IsRoomFor slot

-- a slot is live
abbrev pub IsLiveSlot : ℕ → Slot → Type 0
IsLiveSlot moment slot = IsLive moment (key_entry_of slot)

-- what stands for an expiry among the expiries by place
abbrev pub moment_of : Option ℕ → ℕ
moment_of (Some expiry) = expiry
moment_of None = NO_EXPIRY

-- at the place of each slot stands its expiry, and behind the slots there is none
pub record AreExpiries (slots : List (List ℕ × Slot)) (expiries : List ℕ) : Type 0 where
  pub room : length slots ≤ length expiries
  pub each : (k : ℕ) (d : List ℕ × Slot) → k < length slots
      → slice_index expiries k ≡ moment_of (get_or slots k d).1.expiry
  pub rest : (k : ℕ) → length slots ≤ k → k < length expiries
      → slice_index expiries k ≡ NO_EXPIRY

-- all keys are live, their expiries are known by place, and there is room and a place for each key
-- for which memory was taken
pub record IsKeySpace (s : Inside) : Type 0 where
  pub moment : s.moment ≤ last_moment
  pub slots : (key : List ℕ) → ForSome (get bytes_eq s.slots key) (IsLiveSlot s.moment)
  pub expiries : AreExpiries s.slots.entries s.expiries
  pub places : index_map_len s.slots + index_map_len s.spares ≤ length s.expiries
  pub room : index_map_len s.spares ≤ spare s.slots
  pub ready : (key : List ℕ)
      → ForSome (get bytes_eq s.spares key) (IsReadySpare (get bytes_eq s.slots key))

-- a slot of a new key
abbrev pub new_slot : Stored → Slot
new_slot value = record { value = value; expiry = None }

-- a slot stands for what it stood for, and keeps what room it had
abbrev pub KeepsSlot : Option Slot → Option Slot → Type 0
KeepsSlot None None = ⊤
KeepsSlot (Some u) (Some w) =
    (key_entry_of w ≡ key_entry_of u) × (HasRoom u.value → HasRoom w.value)
KeepsSlot None (Some w) = ⊥
KeepsSlot (Some u) None = ⊥

-- what is left of a slot at the moment
abbrev pub live_slot : ℕ → Option Slot → Option Slot
live_slot moment None = None
live_slot moment (Some slot) = if is_ahead moment slot.expiry then Some slot else None
