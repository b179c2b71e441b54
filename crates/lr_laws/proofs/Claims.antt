-- The claims on one object, and what two claims that conflict have in common.
use Rattle.std.proofs.Common.{◌≡◌, ℕ, List, true, false, not, ◌&&◌, ◌||◌, ◌==◌, if◌then◌else◌, refl, sym, ap, ◌∙◌}
use Rattle.std.specs.Str.{bytes_eq}
use Rattle.std.proofs.lemmas.Bool.{false≢true, and_parts, not-true}
use Rattle.std.proofs.lemmas.Bool.Decides.{Decides-eqb}
use Rattle.std.proofs.lemmas.Slice.Eq.{bytes_eq-Decides}
use Rattle.lr_names.specs.Owner.{ThreadOfClient, same_owner}
use Rattle.lr_names.specs.declared.kind.Kind.{Kind}
use Rattle.lr_names.specs.declared.kind.Kind.TheVariants.{Mutex, Fair, Rw, Fenced, Semaphore, Permits, Countdown}
use Rattle.lr_objects.specs.Op.{kind_of, name_of}
use Rattle.lr_objects.specs.declared.op.Op.{Op}
use Rattle.lr_model.specs.Answer.{concern_of}
use Rattle.lr_model.specs.Board.{kind_number, same_kind}
use Rattle.lr_model.specs.Claim.{HoldMode, Claim, Concern, NoHold, OwnHold, AllHolds, is_exclusive}
use Rattle.lr_model.specs.Tenure.{same_object, conflicts, claim_by, is_of_all, is_claim, concerns}
use Rattle.lr_laws.proofs.Owners.{same_owner-Decides}

-- the claim of an owner on an object of a kind, in a mode
abbrev pub claim_on : Kind → List ℕ → HoldMode → ThreadOfClient → Claim
claim_on kind name mode owner =
    record { kind = kind; name = name; mode = mode; owner = owner }

-- the kind that has a number
kind_at : ℕ → Kind
kind_at n =
    if n == 0 then Mutex
    else (if n == 1 then Fair
    else (if n == 2 then Rw
    else (if n == 3 then Fenced
    else (if n == 4 then Semaphore
    else (if n == 5 then Permits
    else Countdown)))))

kind_at-number : (kind : Kind) → kind_at (kind_number kind) ≡ kind
unfolding kind_at
kind_at-number Mutex = refl
kind_at-number _ = refl

-- kinds that are alike are one
kind_is : (a b : Kind) → same_kind a b ≡ true → a ≡ b
kind_is a b e =
    sym (kind_at-number a) ∙ ap kind_at ((Decides-eqb (kind_number a) (kind_number b)).0 e)
    ∙ kind_at-number b

module _ (a b : Claim) (conflict : conflicts a b ≡ true) where
  parts : ((same_object a b.kind b.name && not (same_owner a.owner b.owner)) ≡ true)
      × ((is_exclusive a.mode || is_exclusive b.mode) ≡ true)
  parts = and_parts _ _ conflict

  -- two claims that conflict are on one object
  pub on_one_object : b ≡ claim_on a.kind a.name b.mode b.owner
  on_one_object =
      let object = and_parts (same_object a b.kind b.name) _ parts.0 in
      let both = and_parts (same_kind a.kind b.kind) (bytes_eq a.name b.name) object.0 in
      let kind : a.kind ≡ b.kind = kind_is a.kind b.kind both.0 in
      let name : a.name ≡ b.name = (bytes_eq-Decides a.name b.name).0 both.1 in
      sym (λ i. claim_on (kind i) (name i) b.mode b.owner)

  -- and of two owners
  pub of_two_owners : a.owner ≡ b.owner → ⊥
  of_two_owners one =
      let other = not-true _ (and_parts (same_object a b.kind b.name) _ parts.0).1 in
      false≢true (sym other ∙ (same_owner-Decides a.owner b.owner).1 one)

-- a call on an object of another kind doesn't concern a claim
pub other_kind : (claim : Claim) (op : Op) → same_kind claim.kind (kind_of op) ≡ false
    → concerns op claim ≡ false
other_kind claim op apart = by (concern_of op.call)
  where
    by : (concern : Concern)
        → (is_claim claim (claim_by (kind_of op) (name_of op) concern)
        || (is_of_all concern && same_object claim (kind_of op) (name_of op))) ≡ false
    by NoHold = refl
    by (OwnHold mode owner lease) = rw apart refl
    by AllHolds = rw apart refl
