-- The field of an owner is the owner's hold count.
use Rattle.std.proofs.Common.{◌≡◌, ◌≤◌, ◌==◌, ℕ, ℤ, pos, Bool, true, false, ◌&&◌, cond, List, Option, Some, None, Result, Ok, refl, ap, sym, ◌∙◌, arith}
use Rattle.std.specs.Int.{int_max}
use Rattle.std.specs.Str.{bytes_eq}
use Rattle.std.proofs.lemmas.Bool.Decides.{nat_tests}
use Rattle.std.proofs.lemmas.Int.{ints}
use lib.IntN.{nat_abs}
use mir.Syntax.{w64}
use mir.Val.{to_z, of_z}
use Rattle.lr_limits.specs.Limits.{hold_limit}
use Rattle.lr_names.specs.Owner.{ThreadOfClient, IsOwner, owner_text, same_owner}
use Rattle.lr_names.proofs.OwnerLaws.{owner_text-injective}
use Rattle.lr_keys.specs.declared.fault.KeyFault.{KeyFault}
use Rattle.lr_keys.specs.KeySpace.{KeyEntry, field_at}
use Rattle.lr_keys.proofs.TableLaws.{bytes_eq-same, same_bytes, bytes_eq-other}
use Rattle.lr_model.specs.declared.hold.Hold.{Hold}
use Rattle.lr_hold.specs.Step.{IsLiveHold, IsHeld, hold_count}

-- owners that are the same
pub same_owners : (a b : ThreadOfClient) → same_owner a b ≡ true → a ≡ b
same_owners a b e = by (bytes_eq a.client b.client) (a.thread == b.thread) refl refl e
  where
    by : (c t : Bool) → bytes_eq a.client b.client ≡ c → (a.thread == b.thread) ≡ t
        → (c && t) ≡ true → a ≡ b
    by true true client thread both =
        let clients = same_bytes a.client b.client client in
        let threads : a.thread ≡ b.thread = grind (arith, nat_tests) in
        ap (λ (c : List ℕ). record { client = c; thread = a.thread }) clients
        ∙ ap (λ (t : ℕ). record { client = b.client; thread = t }) threads
    by true false client thread both = absurd (cc both)
    by false t client thread both = absurd (cc both)

same_owner-same : (a : ThreadOfClient) → same_owner a a ≡ true
same_owner-same a = grind (arith, nat_tests, bytes_eq-same a.client)

-- owners are compared by their texts
bytes_eq-owner_text : (a b : ThreadOfClient) → IsOwner a → IsOwner b
    → bytes_eq (owner_text b) (owner_text a) ≡ same_owner a b
bytes_eq-owner_text a b in_a in_b = by (same_owner a b) refl
  where
    by : (s : Bool) → same_owner a b ≡ s → bytes_eq (owner_text b) (owner_text a) ≡ s
    by true e =
        ap (λ o. bytes_eq (owner_text b) (owner_text o)) (same_owners a b e)
        ∙ bytes_eq-same (owner_text b)
    by false e =
        bytes_eq-other (owner_text b) (owner_text a) (λ same.
        let one = owner_text-injective b a in_b in_a same in
        absurd (cc (sym (same_owner-same a) ∙ ap (same_owner a) (sym one) ∙ e)))

-- what is found in the field of an owner, if the hold is the owner's
abbrev found_if : Bool → Hold → Result (Option ℤ) KeyFault
found_if mine hold = Ok (cond mine (Some (pos hold.count)) None)

pub hold_count-field : (moment : ℕ) (owner : ThreadOfClient) (entry : Option KeyEntry)
    (held : Option Hold) (number : ℤ) → IsOwner owner → IsHeld moment entry held
    → field_at (owner_text owner) entry ≡ Ok (Some number) → number ≡ pos (hold_count owner held)
hold_count-field moment owner entry None number in_owner at found =
    absurd (cc (sym (ap (field_at (owner_text owner)) at.stands) ∙ found))
hold_count-field moment owner entry (Some hold) number in_owner at found =
    by (same_owner hold.owner owner)
    (ap (λ b. found_if b hold) (sym (bytes_eq-owner_text hold.owner owner in_hold in_owner))
    ∙ sym (ap (field_at (owner_text owner)) at.stands) ∙ found)
  where
    in_hold : IsOwner hold.owner
    in_hold = (at.hold.within hold refl).owner

    by : (s : Bool) → found_if s hold ≡ Ok (Some number) → number ≡ pos (cond s hold.count 0)
    by true e = cc
    by false e = absurd (cc e)

pub hold_count-few : {moment : ℕ} (owner : ThreadOfClient) (held : Option Hold)
    → IsLiveHold moment held → hold_count owner held ≤ hold_limit
hold_count-few owner None live = omega arith
hold_count-few owner (Some hold) live = by (same_owner hold.owner owner)
  where
    by : (s : Bool) → cond s hold.count 0 ≤ hold_limit
    by true = (live.within hold refl).most
    by false = omega arith

-- what the code makes of the field's number
pub no_less_than_0 : (number most : ℤ) (count : ℕ) → number ≡ pos count → count ≤ hold_limit
    → most ≡ int_max (to_z w64 (of_z w64 number)) (pos 0)
    → nat_abs (to_z w64 (of_z w64 most)) ≡ count
no_less_than_0 number most count is few at_most = grind (arith, ints)
