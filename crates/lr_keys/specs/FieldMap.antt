-- The fields of a hash and their numbers, in order of making (Redis data type "hashes").
use Rattle.std.specs.Prelude.{ℕ, Bool, List, Option, Some, None, ℤ, pos, ◌+ℤ◌, neg_ℤ, int_le, ◌&&◌, ◌^◌, ◌-◌, if◌then◌else◌}
use Rattle.std.specs.Str.{bytes_eq}
use Rattle.std.specs.Map.{lookup, remove_entry}
use Rattle.indexmap.specs.IndexMap.{insert_entry}

-- fields with their numbers
abbrev pub Pairs : Type 0
Pairs = List (List ℕ × ℤ)

-- the pairs, and how many more fields fit without memory
pub record FieldTable : Type 0 where
  pub pairs : Pairs
  pub room : ℕ

-- the number of a field, if the hash has the field (Redis command page HGET)
abbrev pub field_value : List ℕ → Pairs → Option ℤ
field_value field pairs = lookup (bytes_eq field) pairs

-- the pairs with this number for the field: in its place where it is there, and else last (Redis
-- command page HSET)
abbrev pub with_field : List ℕ → ℤ → Pairs → Pairs
with_field field number pairs = insert_entry bytes_eq pairs field number

-- the pairs without the field (Redis command page HDEL)
abbrev pub without_field : List ℕ → Pairs → Pairs
without_field field pairs = remove_entry (bytes_eq field) pairs

-- whether a number is one of 64 signed bits
abbrev pub is_i64 : ℤ → Bool
is_i64 z = int_le (neg_ℤ (pos (2 ^ 63))) z && int_le z (pos (2 ^ 63 - 1))

-- the sum, where it stays within 64 signed bits (Redis command page INCRBY)
abbrev pub sum_of : ℤ → ℤ → Option ℤ
sum_of number by = if is_i64 (number +ℤ by) then Some (number +ℤ by) else None
