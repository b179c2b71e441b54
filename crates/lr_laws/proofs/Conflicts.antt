-- No two claims that conflict are held at once in a legal history, where each kind has its law.
use Rattle.std.proofs.Common.{◌≡◌, ℕ, ◌≤◌, List, true, subst}
use Rattle.std.proofs.lemmas.Bool.{false_from_ne_true}
use Rattle.lr_names.specs.Owner.{ThreadOfClient}
use Rattle.lr_names.specs.declared.kind.Kind.{Kind}
use Rattle.lr_model.specs.declared.entry.Entry.{Entry}
use Rattle.lr_model.specs.History.{State, state_at_start, after, IsLegal}
use Rattle.lr_model.specs.Claim.{HoldMode, Claim}
use Rattle.lr_model.specs.Tenure.{conflicts, no_tenure, tenure_after, holds_at, NoConflict}
use Rattle.lr_laws.proofs.Claims.{claim_on, on_one_object}
use Rattle.lr_laws.proofs.ClaimLaws.{ClaimLaw, backed_after}

module _ (law_of : (kind : Kind) → ClaimLaw kind) (last : ℕ) (entries : List Entry)
    (legal : IsLegal (state_at_start last) entries) where
  abbrev first : State
  first = state_at_start last

  -- the objects after the history back each claim
  backed : (kind : Kind) (name : List ℕ) (mode : HoldMode) (owner : ThreadOfClient) (moment : ℕ)
      → (after first entries).moment ≤ moment
      → (law_of kind).Backs name mode owner moment
      (tenure_after (claim_on kind name mode owner) first entries no_tenure)
      (after first entries).objects
  backed kind name mode owner moment later =
      let law : ClaimLaw kind = law_of kind in
      backed_after (claim_on kind name mode owner) (law.Backs name mode owner)
      (law.kept name mode owner) last entries legal moment later

  -- so of two claims that conflict not both are held
  apart : (a b : Claim) (moment : ℕ) → (after first entries).moment ≤ moment
      → conflicts a b ≡ true → holds_at first entries a moment ≡ true
      → holds_at first entries b moment ≡ true → ⊥
  apart a b moment later conflict held others =
      let other : Claim = claim_on a.kind a.name b.mode b.owner in
      let one : b ≡ other = on_one_object a b conflict in
      let so : conflicts a other ≡ true = subst (λ c. conflicts a c ≡ true) one conflict in
      let too : holds_at first entries other moment ≡ true =
      subst (λ c. holds_at first entries c moment ≡ true) one others in
      (law_of a.kind).apart a.name a.mode b.mode a.owner b.owner so moment _ _ _
      (backed a.kind a.name a.mode a.owner moment later)
      (backed a.kind a.name b.mode b.owner moment later) held too

  pub no_conflict : NoConflict first entries
  no_conflict a b moment later conflict held =
      false_from_ne_true _ (apart a b moment later conflict held)
