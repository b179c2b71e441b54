-- The law of the fenced lock: a current tenure of a claim on a lock is the hold that the lock has,
-- with its deadline, as for the reentrant lock. Tokens change nothing in this.
use Rattle.std.proofs.Common.{◌≡◌, ℕ, ◌+◌, ◌==◌, List, Option, Some, None, refl, sym, subst}
use Rattle.std.proofs.lemmas.Bool.{cond_both}
use Rattle.lr_limits.specs.Limits.{token_limit}
use Rattle.lr_names.specs.Owner.{ThreadOfClient}
use Rattle.lr_names.specs.declared.kind.Kind.TheVariants.{Fenced}
use Rattle.lr_objects.specs.Op.{call_on}
use Rattle.lr_objects.specs.declared.kinds.Call.{Call}
use Rattle.lr_objects.specs.declared.kinds.Call.TheVariants as calls
use Rattle.lr_objects.specs.declared.fenced.FencedCall.TheVariants.{Try, Unlock, Renew, Token}
use Rattle.lr_objects.specs.declared.reply.Reply.{Reply}
use Rattle.lr_objects.specs.declared.reply.Reply.TheVariants.{Granted, TokensSpent}
use Rattle.lr_model.specs.declared.hold.Hold.{Hold}
use Rattle.lr_model.specs.Answer.{Objects, objects_after}
use Rattle.lr_model.specs.Fenced.{FencedLock, fenced_post, reply_with_token, with_token, take_fenced, fenced_try, fenced_unlock, fenced_renew}
use Rattle.lr_model.specs.Hold.{live_hold, take_hold, give_back_hold, renew_hold}
use Rattle.lr_model.specs.Outcome.{Outcome}
use Rattle.lr_model.specs.Claim.{HoldMode}
use Rattle.lr_model.specs.Tenure.{Tenure, tenure_by_reply}
use Rattle.lr_laws.proofs.NameTables.{put_back}
use Rattle.lr_laws.proofs.Claims.{claim_on, of_two_owners}
use Rattle.lr_laws.proofs.ClaimLaws.{IsKept, ClaimLaw, tenure_by, unconcerned}
use Rattle.lr_laws.proofs.Holds.{HoldsAsTold, live_hold-live}
use Rattle.lr_laws.proofs.HoldSteps.{KeepsHolds, IsKeeping, silent_keeps, on_live_hold}
use Rattle.lr_laws.proofs.HoldFunctions.{take_hold-keeps, give_back_hold-keeps, renew_hold-keeps}
use Rattle.lr_laws.proofs.HoldTables.{BacksAlone, alone_at_start, alone_later, alone_apart, alone_by_owner}

-- a grant that tells a token grants the same tenure
same_tenure : (moment lease token : ℕ) (reply : Reply) (tenure : Tenure)
    → tenure_by_reply moment lease (reply_with_token token reply) tenure
    ≡ tenure_by_reply moment lease reply tenure
same_tenure moment lease token Granted tenure = refl
same_tenure moment lease token _ tenure = refl

module _ (moment lease : ℕ) (owner : ThreadOfClient) where
  -- what a function leaves of the holds of a lock
  abbrev IsKeepingLock : Option Hold → Outcome FencedLock → Type 0
  IsKeepingLock before outcome =
      KeepsHolds moment lease owner before outcome.reply outcome.object.held

  -- a step on the hold keeps the same with a token
  with_token-keeps : (token : ℕ) (before : Option Hold) (outcome : Outcome (Option Hold))
      → IsKeeping moment lease owner before outcome
      → IsKeepingLock before (with_token token outcome)
  with_token-keeps token before outcome keeps = record {
    own = λ tenure h.
        subst (λ (t : Tenure). HoldsAsTold owner moment t outcome.object)
        (sym (same_tenure moment lease token outcome.reply tenure)) (keeps.own tenure h);
    others = keeps.others;
  }

  -- taking, giving back and renewing
  take_fenced-keeps : (token : ℕ) (before : Option Hold) → live_hold moment before ≡ before
      → IsKeepingLock before (take_fenced moment owner lease token before)
  take_fenced-keeps token None still =
      cond_both (token == token_limit) _ _ (IsKeepingLock None)
      (λ spent. silent_keeps moment lease owner TokensSpent None (λ tenure. refl))
      (λ more. with_token-keeps (token + 1) None (take_hold moment owner lease None)
      (take_hold-keeps moment lease owner None still))
  take_fenced-keeps token (Some hold) still =
      with_token-keeps token (Some hold) (take_hold moment owner lease (Some hold))
      (take_hold-keeps moment lease owner (Some hold) still)

  module _ (lock : FencedLock) where
    abbrev live : Option Hold
    live = live_hold moment lock.held

    still : live_hold moment live ≡ live
    still = live_hold-live moment lock.held

    fenced_try-keeps : IsKeepingLock lock.held (fenced_try moment owner lease lock)
    fenced_try-keeps =
        on_live_hold moment lease owner (λ (l : FencedLock). l.held) lock _
        (take_fenced-keeps lock.token live still)

    fenced_unlock-keeps : (name : List ℕ)
        → IsKeepingLock lock.held (fenced_unlock name moment owner lease lock)
    fenced_unlock-keeps name =
        on_live_hold moment lease owner (λ (l : FencedLock). l.held) lock _
        (with_token-keeps lock.token live
        (give_back_hold (Some (fenced_post name)) moment owner lease live)
        (give_back_hold-keeps moment lease owner (Some (fenced_post name)) live still))

    fenced_renew-keeps : IsKeepingLock lock.held (fenced_renew moment owner lease lock)
    fenced_renew-keeps =
        on_live_hold moment lease owner (λ (l : FencedLock). l.held) lock _
        (with_token-keeps lock.token live (renew_hold moment owner lease live)
        (renew_hold-keeps moment lease owner live still))

module _ (name : List ℕ) (mode : HoldMode) (owner : ThreadOfClient) where
  -- a lock backs a claim
  abbrev pub Backs : ℕ → Tenure → Objects → Type 0
  Backs moment tenure objects =
      BacksAlone mode owner moment tenure (objects.fenced_locks name).held

  by_call : (moment : ℕ) (key : List ℕ) (call : Call) (tenure : Tenure) (objects : Objects)
      → Backs moment tenure objects
      → Backs moment
      (tenure_by (claim_on Fenced name mode owner) moment (call_on key call) objects tenure)
      (objects_after objects moment (call_on key call))
  by_call moment key (calls.Fenced (Try caller lease)) tenure objects backs =
      alone_by_owner (λ lock. lock.held) objects.fenced_locks name owner moment tenure key
      (fenced_try moment caller lease (objects.fenced_locks key)) lease caller
      (fenced_try-keeps moment lease caller (objects.fenced_locks key)) mode backs
  by_call moment key (calls.Fenced (Unlock caller rest)) tenure objects backs =
      alone_by_owner (λ lock. lock.held) objects.fenced_locks name owner moment tenure key
      (fenced_unlock key moment caller rest (objects.fenced_locks key)) rest caller
      (fenced_unlock-keeps moment rest caller (objects.fenced_locks key) key) mode backs
  by_call moment key (calls.Fenced (Renew caller lease)) tenure objects backs =
      alone_by_owner (λ lock. lock.held) objects.fenced_locks name owner moment tenure key
      (fenced_renew moment caller lease (objects.fenced_locks key)) lease caller
      (fenced_renew-keeps moment lease caller (objects.fenced_locks key)) mode backs
  by_call moment key (calls.Fenced Token) tenure objects backs =
      subst (λ (lock : FencedLock). BacksAlone mode owner moment tenure lock.held)
      (sym (put_back objects.fenced_locks key name)) backs
  -- a call on an object of another kind leaves every lock alone
  by_call moment key call tenure objects backs =
      subst (λ t. Backs moment t objects)
      (sym (unconcerned (claim_on Fenced name mode owner) moment (call_on key call) objects tenure
      refl)) backs

  -- its objects keep backing it
  pub fenced_kept : IsKept (claim_on Fenced name mode owner) Backs
  fenced_kept = record {
    at_start = alone_at_start mode owner 0;
    by_time = λ m n tenure objects.
        alone_later mode owner m n tenure (objects.fenced_locks name).held;
    by_call = by_call;
  }

pub fenced_law : ClaimLaw Fenced
fenced_law = record {
  Backs = Backs;
  kept = fenced_kept;
  apart = λ name m n o p conflict moment t u objects.
      alone_apart m n o p moment t u (objects.fenced_locks name).held
      (of_two_owners (claim_on Fenced name m o) (claim_on Fenced name n p) conflict);
}
