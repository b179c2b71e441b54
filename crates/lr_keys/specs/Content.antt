-- What a key holds, and what a call makes of it, as the Redis command pages say.
use Rattle.std.specs.Prelude.{◌++◌, ℕ, Bool, true, false, List, [], ◌∷◌, length, Option, Some, Result, Ok, Err, ℤ}
use Rattle.lr_lists.specs.Items.{without_item}
use Rattle.lr_sorted.specs.Members.{Members as Scores, with_score, without_member}
use Rattle.lr_keys.specs.declared.fault.KeyFault.{KeyFault}
use Rattle.lr_keys.specs.declared.fault.KeyFault.TheVariants.{WrongKind}
use Rattle.lr_keys.specs.declared.value_kind.ValueKind.{ValueKind}
use Rattle.lr_keys.specs.declared.value_kind.ValueKind.TheVariants.{Hash, List as ListKind, Zset, Counter}
use Rattle.lr_keys.specs.FieldMap.{Pairs, with_field, without_field}

-- what a key holds: the fields of a hash in order of making, the items of a list in their order, the
-- members of a sorted set in order of score and then of their bytes, or the number of a counter
pub data Content : Type 0 where
  Fields : Pairs → Content
  Items : List (List ℕ) → Content
  Members : Scores → Content
  Number : ℤ → Content

-- the kind of a value (Redis command page TYPE)
abbrev pub kind_in : Content → ValueKind
kind_in (Fields _) = Hash
kind_in (Items _) = ListKind
kind_in (Members _) = Zset
kind_in (Number _) = Counter

-- the fields of a hash
abbrev pub hash_in : Content → Result Pairs KeyFault
hash_in (Fields pairs) = Ok pairs
hash_in other = Err WrongKind

-- the items of a list
abbrev pub list_in : Content → Result (List (List ℕ)) KeyFault
list_in (Items items) = Ok items
list_in other = Err WrongKind

-- the members of a sorted set
abbrev pub zset_in : Content → Result Scores KeyFault
zset_in (Members members) = Ok members
zset_in other = Err WrongKind

-- the number of a counter
abbrev pub counter_in : Content → Result (Option ℤ) KeyFault
counter_in (Number n) = Ok (Some n)
counter_in other = Err WrongKind

-- how many members a value has; a counter counts as one (this project's own)
abbrev pub member_count : Content → ℕ
member_count (Fields pairs) = length pairs
member_count (Items items) = length items
member_count (Members members) = length members
member_count (Number _) = 1

-- whether a list has nothing in it
abbrev pub has_none : {X : Type 0} → List X → Bool
has_none [] = true
has_none (x ∷ xs) = false

-- whether a value has no members
abbrev pub is_empty : Content → Bool
is_empty (Fields pairs) = has_none pairs
is_empty (Items items) = has_none items
is_empty (Members members) = has_none members
is_empty (Number _) = false

-- the hash with this number for the field; a value of another kind stays
abbrev pub content_with_field : List ℕ → ℤ → Content → Content
content_with_field field number (Fields pairs) = Fields (with_field field number pairs)
content_with_field field number other = other

-- the list with the item last
abbrev pub content_with_item : List ℕ → Content → Content
content_with_item item (Items items) = Items (items ++ item ∷ [])
content_with_item item other = other

-- the sorted set with this score for the member
abbrev pub content_with_member : List ℕ → ℕ → Content → Content
content_with_member member score (Members members) = Members (with_score member score members)
content_with_member member score other = other

-- the hash without the field
abbrev pub content_without_field : List ℕ → Content → Content
content_without_field field (Fields pairs) = Fields (without_field field pairs)
content_without_field field other = other

-- the list without the items that are equal to this one
abbrev pub content_without_item : List ℕ → Content → Content
content_without_item item (Items items) = Items (without_item item items)
content_without_item item other = other

-- the sorted set without the member
abbrev pub content_without_member : List ℕ → Content → Content
content_without_member member (Members members) = Members (without_member member members)
content_without_member member other = other
