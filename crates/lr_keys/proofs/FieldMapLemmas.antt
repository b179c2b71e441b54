use Rattle.std.proofs.Common.{◌≡◌, ◌≤◌, ◌<◌, ◌+◌, suc, length, arith, ℕ, Bool, true, false, cond, List, [], ◌∷◌, ◌++◌, ℤ, Some, None, IsSome, refl, ap, true≢false, sym}
use Rattle.std.specs.Str.{bytes_eq}
use Rattle.std.specs.Map.{lookup, set_value}
use Rattle.indexmap.specs.IndexMap.{insert_entry}
use Rattle.lr_keys.specs.FieldMap.{field_value, with_field, Pairs}

-- a field that is there takes the number in its place
pub with_field-there : (field : List ℕ) (number : ℤ) (pairs : Pairs)
    → IsSome (field_value field pairs)
    → with_field field number pairs ≡ set_value (bytes_eq field) pairs number
with_field-there field number [] there = absurd (true≢false (sym there))
with_field-there field number (e ∷ es) there =
    by (bytes_eq field e.0) there (with_field-there field number es)
  where
    by : (b : Bool) → IsSome (cond b (Some e.1) (field_value field es))
        → (IsSome (field_value field es)
        → with_field field number es ≡ set_value (bytes_eq field) es number)
        → cond b ((e.0, number) ∷ es) (e ∷ with_field field number es)
        ≡ cond b ((e.0, number) ∷ es) (e ∷ set_value (bytes_eq field) es number)
    by true _ _ = refl
    by false found rest = ap (λ l. e ∷ l) (rest found)

-- a field that is there leaves as many fields, and a new one makes one more at most
pub length-with_field_there : (field : List ℕ) (number : ℤ) (pairs : Pairs)
    → IsSome (field_value field pairs) → length (with_field field number pairs) ≡ length pairs
length-with_field_there field number [] there = absurd (true≢false (sym there))
length-with_field_there field number (e ∷ es) there =
    by (bytes_eq field e.0) there (length-with_field_there field number es)
  where
    by : (b : Bool) → IsSome (cond b (Some e.1) (field_value field es))
        → (IsSome (field_value field es) → length (with_field field number es) ≡ length es)
        → length (cond b ((e.0, number) ∷ es) (e ∷ with_field field number es)) ≡ suc (length es)
    by true _ _ = refl
    by false found rest = ap suc (rest found)

pub length-with_field_le : (field : List ℕ) (number : ℤ) (pairs : Pairs)
    → length (with_field field number pairs) ≤ length pairs + 1
length-with_field_le field number [] = omega arith
length-with_field_le field number (e ∷ es) =
    by (bytes_eq field e.0) (length-with_field_le field number es)
  where
    by : (b : Bool) → length (with_field field number es) ≤ length es + 1
        → length (cond b ((e.0, number) ∷ es) (e ∷ with_field field number es)) ≤ suc (length es)
        + 1
    by true rest = omega arith
    by false rest = omega arith

pub length-with_field_some : (field : List ℕ) (number : ℤ) (pairs : Pairs)
    → 0 < length (with_field field number pairs)
length-with_field_some field number [] = omega arith
length-with_field_some field number (e ∷ es) = by (bytes_eq field e.0)
  where
    by : (b : Bool) → 0 < length (cond b ((e.0, number) ∷ es) (e ∷ with_field field number es))
    by true = omega arith
    by false = omega arith

-- a field that isn't there comes last
pub with_field-last : {V : Type 0} (field : List ℕ) (value : V) (es : List (List ℕ × V))
    → lookup (bytes_eq field) es ≡ None
    → insert_entry bytes_eq es field value ≡ es ++ (field, value) ∷ []
with_field-last field value [] absent = refl
with_field-last field value (e ∷ es) absent =
    by (with_field-last field value es) (bytes_eq field e.0) absent
  where
    by : (lookup (bytes_eq field) es ≡ None
        → insert_entry bytes_eq es field value ≡ es ++ (field, value) ∷ []) → (b : Bool)
        → cond b (Some e.1) (lookup (bytes_eq field) es) ≡ None
        → cond b ((e.0, value) ∷ es) (e ∷ insert_entry bytes_eq es field value)
        ≡ e ∷ (es ++ (field, value) ∷ [])
    by rest true found = absurd (cc found)
    by rest false absent = ap (λ l. e ∷ l) (rest absent)
