-- Laws of the calls' words, for the crates above.
use Rattle.std.proofs.Common.{◌≡◌, ◌≢◌, ◌+◌, ◌<◌, ◌^◌, ℕ, Bool, true, false, List, [], ◌∷◌, Option, Some, None, ℤ, pos, negsuc, refl, ap, ◌∙◌, arith, if◌then◌else◌}
use Rattle.std.proofs.lemmas.Int.{ints}
use Rattle.lr_keys.specs.declared.value_kind.ValueKind.{ValueKind}
use Rattle.lr_keys.specs.FieldMap.{field_value, sum_of, with_field, without_field}
use Rattle.lr_keys.specs.KeySpace.{Keys, Plan, IsPrepared, is_plan_for, plan_at, plans_after}
use Rattle.lr_keys.specs.Table.{with_key}
use Rattle.lr_keys.proofs.TableLaws.{bytes_eq-other, bytes_eq-same, with_key-other, with_key-same}

-- numbers that stay small add up
pub sum_of-up : (n m : ℕ) → n + m < 2 ^ 63 → sum_of (pos n) (pos m) ≡ Some (pos (n + m))
sum_of-up n m small = grind (arith, ints)

pub sum_of-down : (n : ℕ) → n < 2 ^ 63 → sum_of (pos (n + 1)) (negsuc 0) ≡ Some (pos n)
sum_of-down n small = grind (arith, ints)

-- a call uses up nothing that is prepared for other keys
pub plans_after-other : (was_there : Bool) (key : List ℕ) (kind : ValueKind) (member : List ℕ)
    (plans : List ℕ → Option Plan) (q : List ℕ) → key ≢ q
    → plans_after was_there key kind member plans q ≡ plans q
plans_after-other true key kind member plans q apart = refl
plans_after-other false key kind member plans q apart = by (is_plan_for kind member (plans key))
  where
    by : (b : Bool) → (if b then with_key key None plans else plans) q ≡ plans q
    by true = with_key-other key None plans q apart
    by false = refl

-- what was prepared for the key and the member is prepared
pub IsPrepared-with_key : (before after : Keys) (key : List ℕ) (kind : ValueKind) (member : List ℕ)
    → plan_at after ≡ with_key key (Some (record { kind = kind; member = member })) (plan_at before)
    → IsPrepared after key kind member
IsPrepared-with_key before after key kind member prepared =
    ap (λ (f : List ℕ → Option Plan). f key) prepared
    ∙ with_key-same key (Some (record { kind = kind; member = member })) (plan_at before)

-- a hash of one field
module _ (field : List ℕ) (n m : ℤ) where
  pub field_value-one : field_value field ((field, n) ∷ []) ≡ Some n
  field_value-one = ap (λ (b : Bool). if b then Some n else None) (bytes_eq-same field)

  pub with_field-one : with_field field m ((field, n) ∷ []) ≡ (field, m) ∷ []
  with_field-one = ap (λ (b : Bool). if b then (field, m) ∷ [] else (field, n) ∷ (field, m) ∷ [])
      (bytes_eq-same field)

  pub without_field-one : without_field field ((field, n) ∷ []) ≡ []
  without_field-one = ap (λ (b : Bool). if b then [] else (field, n) ∷ []) (bytes_eq-same field)

  pub field_value-one_other : (other : List ℕ) → other ≢ field
      → field_value other ((field, n) ∷ []) ≡ None
  field_value-one_other other apart =
      ap (λ (b : Bool). if b then Some n else None) (bytes_eq-other other field apart)
