-- The law of a kind on whose objects no call takes a claim, as one without functions yet: nobody
-- has a tenure of such a claim.
use Rattle.std.proofs.Common.{◌≡◌, List, ℕ, false, sym, ap, ◌∙◌, refl}
use Rattle.std.proofs.lemmas.Bool.{false≢true, cond-false}
use Rattle.lr_names.specs.Owner.{ThreadOfClient}
use Rattle.lr_names.specs.declared.kind.Kind.{Kind}
use Rattle.lr_objects.specs.Op.{call_on}
use Rattle.lr_objects.specs.declared.op.Op.{Op}
use Rattle.lr_model.specs.Claim.{HoldMode}
use Rattle.lr_model.specs.Tenure.{Tenure, is_current, no_tenure, concerns}
use Rattle.lr_laws.proofs.Claims.{claim_on}
use Rattle.lr_laws.proofs.ClaimLaws.{ClaimLaw}

-- no call concerns a claim on an object of a kind
abbrev pub IsUnclaimed : Kind → Type 0
IsUnclaimed kind =
    (name : List ℕ) (mode : HoldMode) (owner : ThreadOfClient) (op : Op)
    → concerns op (claim_on kind name mode owner) ≡ false

pub unclaimed_law : (kind : Kind) → IsUnclaimed kind → ClaimLaw kind
unclaimed_law kind unclaimed = record {
  Backs = λ name mode owner moment tenure objects. tenure ≡ no_tenure;
  kept = λ name mode owner. record {
    at_start = refl;
    by_time = λ m n tenure objects le none. none;
    by_call = λ moment key call tenure objects none.
        cond-false _ _ tenure (unclaimed name mode owner (call_on key call)) ∙ none;
  };
  apart = λ name m n o p conflict moment t u objects none others of_first of_second.
      false≢true (sym (ap (λ (x : Tenure). is_current x moment) none) ∙ of_first);
}
