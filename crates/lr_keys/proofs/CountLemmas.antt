-- How many members a value has after a change.
use Rattle.std.proofs.Common.{◌≡◌, ◌≤◌, ◌<◌, ◌+◌, ℕ, Bool, true, false, cond, suc, List, [], ◌∷◌, length, Some, IsSome, refl, sym, arith, true≢false, length-append}
use Rattle.std.specs.Map.{lookup, remove_entry}
use Rattle.std.specs.Str.{bytes_eq}
use Rattle.lr_lists.specs.Items.{without_item}
use Rattle.lr_sorted.specs.Members.{Members as Scores, Scored, comes_before, inserted, without_member}
use Rattle.lr_keys.specs.declared.addition.Addition.{Addition}
use Rattle.lr_keys.specs.declared.addition.Addition.TheVariants.{Field, Item, Member, Number as NewNumber}
use Rattle.lr_keys.specs.declared.value_kind.ValueKind.{ValueKind}
use Rattle.lr_keys.specs.declared.value_kind.ValueKind.TheVariants.{Hash as HashKind, List as ListKind, Zset as ZsetKind, Counter as CounterKind}
use Rattle.lr_keys.specs.Addition.{content_made, content_with, content_without}
use Rattle.lr_keys.specs.Content.{Content, Fields, Items, Members, Number, has_none, is_empty, member_count}
use Rattle.lr_keys.specs.Slots.{HasMember}
use Rattle.lr_keys.proofs.FieldMapLemmas.{length-with_field_le, length-with_field_some, length-with_field_there}

-- an entry less leaves no more entries, and one less where it was there
pub length-remove_entry : {V : Type 0} (test : List ℕ → Bool) (es : List (List ℕ × V))
    → length (remove_entry test es) ≤ length es
length-remove_entry test [] = omega arith
length-remove_entry test (e ∷ es) = by (test e.0) (length-remove_entry test es)
  where
    by : (b : Bool) → length (remove_entry test es) ≤ length es
        → length (cond b es (e ∷ remove_entry test es)) ≤ suc (length es)
    by true rest = omega arith
    by false rest = omega arith

length-remove_entry_there : {V : Type 0} (test : List ℕ → Bool) (es : List (List ℕ × V))
    → IsSome (lookup test es) → length (remove_entry test es) + 1 ≡ length es
length-remove_entry_there test [] there = absurd (true≢false (sym there))
length-remove_entry_there test (e ∷ es) there =
    by (test e.0) there (length-remove_entry_there test es)
  where
    by : (b : Bool) → IsSome (cond b (Some e.1) (lookup test es))
        → (IsSome (lookup test es) → length (remove_entry test es) + 1 ≡ length es)
        → length (cond b es (e ∷ remove_entry test es)) + 1 ≡ suc (length es)
    by true found rest = omega arith
    by false found rest = omega (arith, rest found)

-- a member that is put in order is one more
length-inserted : (new : Scored) (members : Scores)
    → length (inserted new members) ≡ length members + 1
length-inserted new [] = omega arith
length-inserted new (m ∷ ms) = by (comes_before new m) (length-inserted new ms)
  where
    by : (b : Bool) → length (inserted new ms) ≡ length ms + 1
        → length (cond b (new ∷ m ∷ ms) (m ∷ inserted new ms)) ≡ suc (length ms) + 1
    by true rest = omega arith
    by false rest = omega arith

length-without_item : (item : List ℕ) (items : List (List ℕ))
    → length (without_item item items) ≤ length items
length-without_item item [] = omega arith
length-without_item item (i ∷ is) = by (bytes_eq item i) (length-without_item item is)
  where
    by : (b : Bool) → length (without_item item is) ≤ length is
        → length (cond b (without_item item is) (i ∷ without_item item is)) ≤ suc (length is)
    by true rest = omega arith
    by false rest = omega arith

-- a key is made with one member
pub member_count-made : (addition : Addition) → member_count (content_made addition) ≡ 1
member_count-made (Field field number) = refl
member_count-made (Item item) = refl
member_count-made (Member member score) = refl
member_count-made (NewNumber number) = refl

-- an addition leaves a member at least
pub some-content_with : (addition : Addition) (value : Content) → 0 < member_count value
    → 0 < member_count (content_with addition value)
some-content_with (Field field number) (Fields pairs) some =
    length-with_field_some field number pairs
some-content_with (Field field number) (Items items) some = some
some-content_with (Field field number) (Members members) some = some
some-content_with (Field field number) (Number n) some = some
some-content_with (Item item) (Fields pairs) some = some
some-content_with (Item item) (Items items) some =
    omega (arith, length-append items (item ∷ []))
some-content_with (Item item) (Members members) some = some
some-content_with (Item item) (Number n) some = some
some-content_with (Member member score) (Fields pairs) some = some
some-content_with (Member member score) (Items items) some = some
some-content_with (Member member score) (Members members) some =
    omega (arith, length-inserted (member, score) (without_member member members))
some-content_with (Member member score) (Number n) some = some
some-content_with (NewNumber number) value some = omega arith

-- it makes one member more at most
pub member_count-with : (addition : Addition) (value : Content)
    → member_count (content_with addition value) ≤ member_count value + 1
member_count-with (Field field number) (Fields pairs) = length-with_field_le field number pairs
member_count-with (Field field number) (Items items) = omega arith
member_count-with (Field field number) (Members members) = omega arith
member_count-with (Field field number) (Number n) = omega arith
member_count-with (Item item) (Fields pairs) = omega arith
member_count-with (Item item) (Items items) = omega (arith, length-append items (item ∷ []))
member_count-with (Item item) (Members members) = omega arith
member_count-with (Item item) (Number n) = omega arith
member_count-with (Member member score) (Fields pairs) = omega arith
member_count-with (Member member score) (Items items) = omega arith
member_count-with (Member member score) (Members members) = omega (
  arith,
  length-inserted (member, score) (without_member member members),
  length-remove_entry (bytes_eq member) members,
)
member_count-with (Member member score) (Number n) = omega arith
member_count-with (NewNumber number) value = omega arith

-- and no more where the member is there
pub member_count-there : (addition : Addition) (value : Content) → HasMember addition value
    → member_count (content_with addition value) ≤ member_count value
member_count-there (Field field number) (Fields pairs) there =
    omega (arith, length-with_field_there field number pairs there)
member_count-there (Field field number) (Items items) there = omega arith
member_count-there (Field field number) (Members members) there = omega arith
member_count-there (Field field number) (Number n) there = omega arith
member_count-there (Item item) value there = absurd there
member_count-there (Member member score) (Fields pairs) there = omega arith
member_count-there (Member member score) (Items items) there = omega arith
member_count-there (Member member score) (Members members) there = omega (
  arith,
  length-inserted (member, score) (without_member member members),
  length-remove_entry_there (bytes_eq member) members there,
)
member_count-there (Member member score) (Number n) there = omega arith
member_count-there (NewNumber number) (Fields pairs) there = absurd (true≢false (sym there))
member_count-there (NewNumber number) (Items items) there = absurd (true≢false (sym there))
member_count-there (NewNumber number) (Members members) there = absurd (true≢false (sym there))
member_count-there (NewNumber number) (Number n) there = omega arith

-- a list with something in it has a length
some-length : {X : Type 0} (xs : List X) → has_none xs ≡ false → 0 < length xs
some-length [] some = absurd (true≢false some)
some-length (x ∷ xs) some = omega arith

-- a value that isn't empty has a member
pub some_members : (value : Content) → is_empty value ≡ false → 0 < member_count value
some_members (Fields pairs) some = some-length pairs some
some_members (Items items) some = some-length items some
some_members (Members members) some = some-length members some
some_members (Number n) some = omega arith

-- a removal leaves no more members
pub member_count-without : (kind : ValueKind) (member : List ℕ) (value : Content)
    → member_count (content_without kind member value) ≤ member_count value
member_count-without HashKind member (Fields pairs) = length-remove_entry (bytes_eq member) pairs
member_count-without HashKind member (Items items) = omega arith
member_count-without HashKind member (Members members) = omega arith
member_count-without HashKind member (Number n) = omega arith
member_count-without ListKind member (Fields pairs) = omega arith
member_count-without ListKind member (Items items) = length-without_item member items
member_count-without ListKind member (Members members) = omega arith
member_count-without ListKind member (Number n) = omega arith
member_count-without ZsetKind member (Fields pairs) = omega arith
member_count-without ZsetKind member (Items items) = omega arith
member_count-without ZsetKind member (Members members) =
    length-remove_entry (bytes_eq member) members
member_count-without ZsetKind member (Number n) = omega arith
member_count-without CounterKind member value = omega arith
