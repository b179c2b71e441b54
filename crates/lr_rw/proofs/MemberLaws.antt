-- The texts of holds are one to one with owners and accesses.
use Rattle.std.proofs.Common.{◌≡◌, ℕ, List, ◌∷◌, drop, slice_index, refl, sym, ap, ◌∙◌, arith}
use Rattle.std.specs.Bool.{Decides}
use Rattle.std.specs.Str.{bytes_eq}
use Rattle.std.proofs.lemmas.Bool.Decides.{Decides-and, Decides-like, same_from_decides}
use Rattle.std.proofs.lemmas.Slice.Eq.{bytes_eq-Decides}
use Rattle.lr_names.specs.Owner.{ThreadOfClient, IsOwner, same_owner}
use Rattle.lr_names.proofs.OwnerLaws.{owner_text-injective}
use Rattle.lr_objects.specs.declared.access.Access.{Access}
use Rattle.lr_objects.specs.declared.access.Access.TheVariants.{Read, Write}
use Rattle.lr_model.specs.declared.read_write_hold.ReadWriteHold.{ReadWriteHold}
use Rattle.lr_model.specs.ReadWrite.{same_access, is_hold_of}
use Rattle.lr_model.proofs.ReadWriteFacts.{same_owner-Decides, same_access-is, same_access-same}
use Rattle.lr_rw.specs.Holds.{member_text, member_of}

-- what begins with two letters is two
letters_differ : {a b : List ℕ} → 114 ∷ a ≡ 119 ∷ b → ⊥
letters_differ same =
    let letters : 114 ≡ 119 = ap (λ (l : List ℕ). slice_index l 0) same in
    omega (arith, letters)

-- a text is read back
pub member_text-injective : (a b : Access) (o p : ThreadOfClient) → IsOwner o → IsOwner p
    → member_text a o ≡ member_text b p → (p ≡ o) × (b ≡ a)
member_text-injective Read Read o p in_o in_p same =
    (sym (owner_text-injective o p in_o in_p (ap (λ (l : List ℕ). drop 2 l) same)), refl)
member_text-injective Read Write o p in_o in_p same = absurd (letters_differ same)
member_text-injective Write Read o p in_o in_p same = absurd (letters_differ (sym same))
member_text-injective Write Write o p in_o in_p same =
    (sym (owner_text-injective o p in_o in_p (ap (λ (l : List ℕ). drop 2 l) same)), refl)

same_access-Decides : (a b : Access) → Decides (same_access a b) (a ≡ b)
same_access-Decides a b =
    (same_access-is a b, λ e. ap (same_access a) (sym e) ∙ same_access-same a)

-- so holds are told apart by their texts
pub bytes_eq-member : (owner : ThreadOfClient) (access : Access) (hold : ReadWriteHold)
    → IsOwner owner → IsOwner hold.owner
    → bytes_eq (member_text access owner) (member_of hold) ≡ is_hold_of owner access hold
bytes_eq-member owner access hold in_owner in_hold =
    same_from_decides (bytes_eq (member_text access owner) (member_of hold))
    (is_hold_of owner access hold)
    (bytes_eq-Decides (member_text access owner) (member_of hold))
    (Decides-like (is_hold_of owner access hold)
    (λ parts. λ i. member_text (sym parts.1 i) (sym parts.0 i))
    (member_text-injective access hold.access owner hold.owner in_owner in_hold)
    (Decides-and (same_owner hold.owner owner) (same_access hold.access access)
    (same_owner-Decides hold.owner owner) (same_access-Decides hold.access access)))
