-- What a look at the keys of a lock sees of its holds.
use Rattle.std.proofs.Common.{◌≡◌, ◌≤◌, ℕ, ℤ, pos, List, [], ◌∷◌, Option, Some, None, option_map, Ok, refl, ap, ◌∙◌, arith}
use Rattle.std.specs.Int.{int_max}
use Rattle.std.specs.Option.{unwrap_or}
use Rattle.std.specs.Result.{result_unwrap_or}
use Rattle.std.proofs.lemmas.Int.{ints}
use lib.IntN.{nat_abs}
use mir.Syntax.{w64}
use mir.Val.{to_z, of_z}
use Rattle.lr_limits.specs.Limits.{hold_limit}
use Rattle.lr_names.specs.Owner.{ThreadOfClient, IsOwner}
use Rattle.lr_objects.specs.declared.access.Access.{Access}
use Rattle.lr_sorted.specs.Members.{Members as Scores, score_of}
use Rattle.lr_keys.specs.FieldMap.{Pairs, field_value}
use Rattle.lr_keys.specs.KeySpace.{Fields, Members, Keys, entry_at, entry_with_value, field_at, score_at, zset_at}
use Rattle.lr_model.specs.declared.read_write_hold.ReadWriteHold.{ReadWriteHold}
use Rattle.lr_model.specs.ReadWrite.{ReadWriteLock, is_hold_of, hold_of}
use Rattle.lr_model.specs.ReadWriteHolds.{IsReadWriteHold}
use Rattle.lr_model.proofs.ReadWriteFacts.{find-some}
use Rattle.lr_rw.specs.Holds.{IsLockAt, member_text, counts_of, deadlines_of}
use Rattle.lr_rw.specs.Step.{count_if, hold_count}
use Rattle.lr_rw.proofs.DeadlineLaws.{deadline_in, score_of-hold}
use Rattle.lr_rw.proofs.ValueLaws.{lookup-hold}

-- a number as the code takes it
no_less_than_0 : (number most : ℤ) (count : ℕ) → number ≡ pos count → count ≤ hold_limit
    → most ≡ int_max (to_z w64 (of_z w64 number)) (pos 0)
    → nat_abs (to_z w64 (of_z w64 most)) ≡ count
no_less_than_0 number most count is few at_most = grind (arith, ints)

-- what is absent has nothing in it
field_in : (field : List ℕ) (pairs : Pairs)
    → field_at field (entry_with_value (Fields pairs) None) ≡ Ok (field_value field pairs)
field_in field [] = refl
field_in field (p ∷ ps) = refl

score_in : (member : List ℕ) (members : Scores)
    → score_at member (entry_with_value (Members members) None) ≡ Ok (score_of member members)
score_in member [] = refl
score_in member (m ∷ ms) = refl

pub members_in : (members : Scores) → zset_at (entry_with_value (Members members) None) ≡ Ok members
members_in [] = refl
members_in (m ∷ ms) = refl

module _ (keys : Keys) (counts deadlines : List ℕ) (lock : ReadWriteLock)
    (at : IsLockAt keys counts deadlines lock) (owner : ThreadOfClient) (access : Access)
    (in_owner : IsOwner owner) where
  -- the count of an owner's hold
  pub field_at-hold : field_at (member_text access owner) (entry_at keys counts)
      ≡ Ok (option_map (λ hold. pos hold.count) (hold_of owner access lock))
  field_at-hold =
      ap (field_at (member_text access owner)) at.has.counts_are
      ∙ field_in (member_text access owner) (counts_of lock)
      ∙ ap (λ n. Ok n)
      (lookup-hold (λ (hold : ReadWriteHold). pos hold.count) owner access in_owner lock at.is.each)

  -- it is a million at most
  count_few : hold_count owner access lock ≤ hold_limit
  count_few = by (hold_of owner access lock) refl
    where
      by : (own : Option ReadWriteHold) → hold_of owner access lock ≡ own
          → count_if own ≤ hold_limit
      by None none = omega arith
      by (Some own) found =
          (find-some (is_hold_of owner access) IsReadWriteHold lock own found at.is.each).1.most

  -- what the code makes of it
  pub count-found : (number most : ℤ)
      → number ≡ unwrap_or (result_unwrap_or
      (field_at (member_text access owner) (entry_at keys counts)) None) (pos 0)
      → most ≡ int_max (to_z w64 (of_z w64 number)) (pos 0)
      → nat_abs (to_z w64 (of_z w64 most)) ≡ hold_count owner access lock
  count-found number most is at_most =
      no_less_than_0 number most (hold_count owner access lock)
      (is ∙ ap (λ found. unwrap_or (result_unwrap_or found None) (pos 0)) field_at-hold
      ∙ by (hold_of owner access lock)) count_few at_most
    where
      by : (own : Option ReadWriteHold)
          → unwrap_or (option_map (λ (hold : ReadWriteHold). pos hold.count) own) (pos 0)
          ≡ pos (count_if own)
      by None = refl
      by (Some own) = refl

  -- the deadline of an owner's hold
  pub score_at-hold : score_at (member_text access owner) (entry_at keys deadlines)
      ≡ Ok (option_map deadline_in (hold_of owner access lock))
  score_at-hold =
      ap (score_at (member_text access owner)) at.has.deadlines_are
      ∙ score_in (member_text access owner) (deadlines_of lock)
      ∙ ap (λ o. Ok o) (score_of-hold lock at.is owner access in_owner)
