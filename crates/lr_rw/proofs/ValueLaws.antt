-- The holds of a lock with a value of each, as the fields of a hash and the scores of a sorted set:
-- what is found, put and removed there.
use Rattle.std.proofs.Common.{◌≡◌, Bool, true, false, [], ◌∷◌, Some, option_map, if◌then◌else◌, refl, sym, ap, ◌∙◌}
use Rattle.std.specs.List.{AllByRecursion}
use Rattle.std.specs.Map.{lookup, remove_entry}
use Rattle.std.specs.Str.{bytes_eq}
use Rattle.indexmap.specs.IndexMap.{insert_entry}
use Rattle.lr_names.specs.Owner.{ThreadOfClient, IsOwner}
use Rattle.lr_objects.specs.declared.access.Access.{Access}
use Rattle.lr_keys.proofs.TableLaws.{same_bytes}
use Rattle.lr_model.specs.declared.read_write_hold.ReadWriteHold.{ReadWriteHold}
use Rattle.lr_model.specs.ReadWrite.{ReadWriteLock, is_hold_of, hold_of, with_hold, without_hold}
use Rattle.lr_model.specs.ReadWriteHolds.{IsReadWriteHold}
use Rattle.lr_rw.specs.Holds.{member_text, member_of, with_values}
use Rattle.lr_rw.proofs.MemberLaws.{bytes_eq-member}

module _ {V : Type 0} (value : ReadWriteHold → V) (owner : ThreadOfClient) (access : Access)
    (in_owner : IsOwner owner) where
  -- the value of the owner's hold is found by its text
  pub lookup-hold : (lock : ReadWriteLock) → AllByRecursion IsReadWriteHold lock
      → lookup (bytes_eq (member_text access owner)) (with_values value lock)
      ≡ option_map value (hold_of owner access lock)
  lookup-hold [] each = refl
  lookup-hold (first ∷ rest) each =
      ap (λ b. if b then Some (value first)
      else lookup (bytes_eq (member_text access owner)) (with_values value rest))
      (bytes_eq-member owner access first in_owner each.0.owner)
      ∙ by (is_hold_of owner access first) (lookup-hold rest each.1)
    where
      by : (b : Bool) → lookup (bytes_eq (member_text access owner)) (with_values value rest)
          ≡ option_map value (hold_of owner access rest)
          → (if b then Some (value first)
          else lookup (bytes_eq (member_text access owner)) (with_values value rest))
          ≡ option_map value (if b then Some first else hold_of owner access rest)
      by true later = refl
      by false later = later

  -- it goes with the hold
  pub remove-hold : (lock : ReadWriteLock) → AllByRecursion IsReadWriteHold lock
      → remove_entry (bytes_eq (member_text access owner)) (with_values value lock)
      ≡ with_values value (without_hold owner access lock)
  remove-hold [] each = refl
  remove-hold (first ∷ rest) each =
      ap (λ b. if b then with_values value rest
      else (member_of first, value first)
      ∷ remove_entry (bytes_eq (member_text access owner)) (with_values value rest))
      (bytes_eq-member owner access first in_owner each.0.owner)
      ∙ by (is_hold_of owner access first) (remove-hold rest each.1)
    where
      by : (b : Bool)
          → remove_entry (bytes_eq (member_text access owner)) (with_values value rest)
          ≡ with_values value (without_hold owner access rest)
          → (if b then with_values value rest
          else (member_of first, value first)
          ∷ remove_entry (bytes_eq (member_text access owner)) (with_values value rest))
          ≡ with_values value (if b then rest else first ∷ without_hold owner access rest)
      by true later = refl
      by false later = ap (λ l. (member_of first, value first) ∷ l) later

-- a value is put where the hold is put
pub insert-hold : {V : Type 0} (value : ReadWriteHold → V) (hold : ReadWriteHold)
    → IsOwner hold.owner → (lock : ReadWriteLock) → AllByRecursion IsReadWriteHold lock
    → insert_entry bytes_eq (with_values value lock) (member_of hold) (value hold)
    ≡ with_values value (with_hold hold lock)
insert-hold value hold in_owner [] each = refl
insert-hold {V} value hold in_owner (first ∷ rest) each =
    by (bytes_eq (member_of hold) (member_of first)) refl
    (is_hold_of hold.owner hold.access first)
    (bytes_eq-member hold.owner hold.access first in_owner each.0.owner)
    (insert-hold value hold in_owner rest each.1)
  where
    by : (t : Bool) → bytes_eq (member_of hold) (member_of first) ≡ t → (b : Bool) → t ≡ b
        → insert_entry bytes_eq (with_values value rest) (member_of hold) (value hold)
        ≡ with_values value (with_hold hold rest)
        → (if t then (member_of first, value hold) ∷ with_values value rest
        else (member_of first, value first)
        ∷ insert_entry bytes_eq (with_values value rest) (member_of hold) (value hold))
        ≡ with_values value (if b then hold ∷ rest else first ∷ with_hold hold rest)
    by true same true both later =
        ap (λ m. (m, value hold) ∷ with_values value rest)
        (sym (same_bytes (member_of hold) (member_of first) same))
    by true same false both later = absurd (cc)
    by false other true both later = absurd (cc)
    by false other false both later = ap (λ l. (member_of first, value first) ∷ l) later
