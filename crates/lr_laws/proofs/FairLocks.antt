-- The law of the fair lock: a current tenure of a claim on a lock is the hold that the lock has,
-- with its deadline, as for the reentrant lock. The queue changes nothing in this: waiting in it,
-- and giving a place in it up, leave the hold.
use Rattle.std.proofs.Common.{◌≡◌, ℕ, ◌-◌, min, nat_lt, length, List, [], ◌∷◌, Bool, true, false, Option, Some, None, refl, sym, subst}
use Rattle.std.proofs.lemmas.Bool.{cond_both}
use Rattle.std.proofs.lemmas.Slice.Eq.{bytes_eq-Decides}
use Rattle.lr_limits.specs.Limits.{member_limit}
use Rattle.lr_names.specs.Owner.{ThreadOfClient, same_owner}
use Rattle.lr_names.specs.declared.kind.Kind.TheVariants.{Fair}
use Rattle.lr_objects.specs.Op.{call_on}
use Rattle.lr_objects.specs.declared.kinds.Call.{Call}
use Rattle.lr_objects.specs.declared.kinds.Call.TheVariants as calls
use Rattle.lr_objects.specs.declared.fair.FairCall.TheVariants.{Try, Unlock, Leave, Renew}
use Rattle.lr_objects.specs.declared.reply.Reply.TheVariants.{Busy, TooMany}
use Rattle.lr_model.specs.declared.hold.Hold.{Hold}
use Rattle.lr_model.specs.Answer.{Objects, objects_after}
use Rattle.lr_model.specs.Fair.{FairPlace, FairLock, is_place_of, place_of, place_wait, live_places, first_post, wait_with, wait_for, take_turn, take_fair, leave_with, fair_try, fair_unlock, fair_leave, fair_renew}
use Rattle.lr_model.specs.Hold.{live_hold}
use Rattle.lr_model.specs.Outcome.{Outcome}
use Rattle.lr_model.specs.Claim.{HoldMode, Exclusive, Shared}
use Rattle.lr_model.specs.Tenure.{Tenure}
use Rattle.lr_laws.proofs.NameTables.{put_at}
use Rattle.lr_laws.proofs.Claims.{claim_on, of_two_owners}
use Rattle.lr_laws.proofs.ClaimLaws.{ClaimLaw, tenure_by, unconcerned}
use Rattle.lr_laws.proofs.Holds.{live_hold-live, held_live}
use Rattle.lr_laws.proofs.HoldSteps.{KeepsHolds, silent_keeps, on_live_hold}
use Rattle.lr_laws.proofs.HoldFunctions.{take_hold-keeps, give_back_hold-keeps, renew_hold-keeps}
use Rattle.lr_laws.proofs.HoldTables.{BacksAlone, alone_at_start, alone_later, alone_apart, alone_by_owner}

module _ (moment lease : ℕ) (owner : ThreadOfClient) where
  -- what a function leaves of the holds of a lock
  abbrev IsKeepingLock : Option Hold → Outcome FairLock → Type 0
  IsKeepingLock before outcome =
      KeepsHolds moment lease owner before outcome.reply outcome.object.held

  -- waiting, with a place in the queue or without one
  wait_with-keeps : (wait : ℕ) (held : Option Hold) (queue : List FairPlace)
      (own : Option FairPlace)
      → IsKeepingLock held (wait_with moment owner wait held queue own)
  wait_with-keeps wait held queue None =
      cond_both (nat_lt (length queue) member_limit) _ _ (IsKeepingLock held)
      (λ room. silent_keeps moment lease owner (Busy wait) held (λ tenure. refl))
      (λ full. silent_keeps moment lease owner TooMany held (λ tenure. refl))
  wait_with-keeps wait held queue (Some own) =
      silent_keeps moment lease owner (Busy wait) held (λ tenure. refl)

  wait_for-keeps : (wait : ℕ) (queues : Bool) (held : Option Hold) (queue : List FairPlace)
      → IsKeepingLock held (wait_for moment owner wait queues held queue)
  wait_for-keeps wait true held queue = wait_with-keeps wait held queue (place_of owner queue)
  wait_for-keeps wait false held queue =
      silent_keeps moment lease owner (Busy wait) held (λ tenure. refl)

  -- taking
  take_turn-keeps : (queues : Bool) (queue : List FairPlace)
      → IsKeepingLock None (take_turn moment owner lease queues queue)
  take_turn-keeps queues [] = take_hold-keeps moment lease owner None refl
  take_turn-keeps queues (place ∷ rest) =
      cond_both (is_place_of owner place) _ _ (IsKeepingLock None)
      (λ first. take_hold-keeps moment lease owner None refl)
      (λ behind.
      wait_for-keeps (min place_wait (place.stale - moment)) queues None (place ∷ rest))

  take_fair-keeps : (queues : Bool) (queue : List FairPlace) (held : Option Hold)
      → live_hold moment held ≡ held
      → IsKeepingLock held (take_fair moment owner lease queues queue held)
  take_fair-keeps queues queue None still = take_turn-keeps queues queue
  take_fair-keeps queues queue (Some hold) still =
      cond_both (same_owner hold.owner owner) _ _ (IsKeepingLock (Some hold))
      (λ same. take_hold-keeps moment lease owner (Some hold) still)
      (λ other. wait_for-keeps (hold.deadline - moment) queues (Some hold) queue)

  module _ (lock : FairLock) where
    abbrev live : Option Hold
    live = live_hold moment lock.held

    still : live_hold moment live ≡ live
    still = live_hold-live moment lock.held

    -- the functions that may change the hold
    fair_try-keeps : (queues : Bool)
        → IsKeepingLock lock.held (fair_try moment owner lease queues lock)
    fair_try-keeps queues =
        on_live_hold moment lease owner (λ (l : FairLock). l.held) lock _
        (take_fair-keeps queues (live_places moment lock.queue) live still)

    fair_unlock-keeps : (name : List ℕ)
        → IsKeepingLock lock.held (fair_unlock name moment owner lease lock)
    fair_unlock-keeps name =
        on_live_hold moment lease owner (λ (l : FairLock). l.held) lock _
        (give_back_hold-keeps moment lease owner
        (first_post name (live_places moment lock.queue)) live still)

    fair_renew-keeps : IsKeepingLock lock.held (fair_renew moment owner lease lock)
    fair_renew-keeps =
        on_live_hold moment lease owner (λ (l : FairLock). l.held) lock _
        (renew_hold-keeps moment lease owner live still)

-- giving a place up leaves the live hold
leave_with-held : (name : List ℕ) (caller : ThreadOfClient) (held : Option Hold)
    (queue : List FairPlace) (own : Option FairPlace)
    → (leave_with name caller held queue own).object.held ≡ held
leave_with-held name caller held queue None = refl
leave_with-held name caller held queue (Some own) = refl

-- what a hold backs, it backs while it is live
alone_live : (mode : HoldMode) (owner : ThreadOfClient) (moment : ℕ) (tenure : Tenure)
    (held : Option Hold) → BacksAlone mode owner moment tenure held
    → BacksAlone mode owner moment tenure (live_hold moment held)
alone_live Exclusive owner moment tenure held backs = held_live owner moment tenure held backs
alone_live Shared owner moment tenure held backs = backs

module _ (name : List ℕ) (mode : HoldMode) (owner : ThreadOfClient) where
  -- a lock backs a claim
  abbrev Backs : ℕ → Tenure → Objects → Type 0
  Backs moment tenure objects =
      BacksAlone mode owner moment tenure (objects.fair_locks name).held

  by_leave : (moment : ℕ) (key : List ℕ) (caller : ThreadOfClient) (tenure : Tenure)
      (objects : Objects) → Backs moment tenure objects
      → Backs moment tenure (objects_after objects moment (call_on key (calls.Fair (Leave caller))))
  by_leave moment key caller tenure objects backs =
      let lock : FairLock = objects.fair_locks key in
      put_at (λ here (l : FairLock). BacksAlone mode owner moment tenure l.held)
      objects.fair_locks key name (fair_leave key moment caller lock).object
      (λ here.
      subst (BacksAlone mode owner moment tenure)
      (sym (leave_with-held key caller (live_hold moment lock.held)
      (live_places moment lock.queue) _))
      (alone_live mode owner moment tenure lock.held
      (subst (λ n. BacksAlone mode owner moment tenure (objects.fair_locks n).held)
      ((bytes_eq-Decides name key).0 here) backs)))
      (λ there. backs)

  by_call : (moment : ℕ) (key : List ℕ) (call : Call) (tenure : Tenure) (objects : Objects)
      → Backs moment tenure objects
      → Backs moment
      (tenure_by (claim_on Fair name mode owner) moment (call_on key call) objects tenure)
      (objects_after objects moment (call_on key call))
  by_call moment key (calls.Fair (Try caller lease queues)) tenure objects backs =
      alone_by_owner (λ lock. lock.held) objects.fair_locks name owner moment tenure key
      (fair_try moment caller lease queues (objects.fair_locks key)) lease caller
      (fair_try-keeps moment lease caller (objects.fair_locks key) queues) mode backs
  by_call moment key (calls.Fair (Unlock caller rest)) tenure objects backs =
      alone_by_owner (λ lock. lock.held) objects.fair_locks name owner moment tenure key
      (fair_unlock key moment caller rest (objects.fair_locks key)) rest caller
      (fair_unlock-keeps moment rest caller (objects.fair_locks key) key) mode backs
  by_call moment key (calls.Fair (Renew caller lease)) tenure objects backs =
      alone_by_owner (λ lock. lock.held) objects.fair_locks name owner moment tenure key
      (fair_renew moment caller lease (objects.fair_locks key)) lease caller
      (fair_renew-keeps moment lease caller (objects.fair_locks key)) mode backs
  by_call moment key (calls.Fair (Leave caller)) tenure objects backs =
      by_leave moment key caller tenure objects backs
  -- a call on an object of another kind leaves every lock alone
  by_call moment key call tenure objects backs =
      subst (λ t. Backs moment t objects)
      (sym (unconcerned (claim_on Fair name mode owner) moment (call_on key call) objects tenure
      refl)) backs

pub fair_law : ClaimLaw Fair
fair_law = record {
  Backs = Backs;
  kept = λ name mode owner. record {
    at_start = alone_at_start mode owner 0;
    by_time = λ m n tenure objects.
        alone_later mode owner m n tenure (objects.fair_locks name).held;
    by_call = by_call name mode owner;
  };
  apart = λ name m n o p conflict moment t u objects.
      alone_apart m n o p moment t u (objects.fair_locks name).held
      (of_two_owners (claim_on Fair name m o) (claim_on Fair name n p) conflict);
}
