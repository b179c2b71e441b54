-- The law of the reentrant lock: a current tenure of a claim on a lock is the hold that the lock
-- has, with its deadline.
use Rattle.std.proofs.Common.{ℕ, List, Option, Some, refl, sym, subst}
use Rattle.lr_names.specs.Owner.{ThreadOfClient}
use Rattle.lr_names.specs.declared.kind.Kind.TheVariants.{Mutex}
use Rattle.lr_objects.specs.Op.{call_on}
use Rattle.lr_objects.specs.declared.kinds.Call.{Call}
use Rattle.lr_objects.specs.declared.kinds.Call.TheVariants as calls
use Rattle.lr_objects.specs.declared.lock.LockCall.TheVariants.{Try, Unlock, Renew, Force}
use Rattle.lr_model.specs.declared.hold.Hold.{Hold}
use Rattle.lr_model.specs.Answer.{Objects, objects_after}
use Rattle.lr_model.specs.Hold.{live_hold}
use Rattle.lr_model.specs.Mutex.{lock_post, lock_try, lock_unlock, lock_renew, lock_force}
use Rattle.lr_model.specs.Claim.{HoldMode}
use Rattle.lr_model.specs.Tenure.{Tenure}
use Rattle.lr_laws.proofs.Claims.{claim_on, of_two_owners}
use Rattle.lr_laws.proofs.ClaimLaws.{ClaimLaw, tenure_by, unconcerned}
use Rattle.lr_laws.proofs.Holds.{live_hold-live}
use Rattle.lr_laws.proofs.HoldSteps.{IsKeeping, on_live_hold}
use Rattle.lr_laws.proofs.HoldFunctions.{take_hold-keeps, give_back_hold-keeps, renew_hold-keeps, end_hold-ends}
use Rattle.lr_laws.proofs.HoldTables.{BacksAlone, alone_at_start, alone_later, alone_apart, alone_by_owner, alone_by_operator}

module _ (moment : ℕ) (owner : ThreadOfClient) (lease : ℕ) (lock : Option Hold) where
  lock_try-keeps : IsKeeping moment lease owner lock (lock_try moment owner lease lock)
  lock_try-keeps =
      on_live_hold moment lease owner (λ held. held) lock _
      (take_hold-keeps moment lease owner (live_hold moment lock) (live_hold-live moment lock))

  lock_unlock-keeps : (name : List ℕ)
      → IsKeeping moment lease owner lock (lock_unlock name moment owner lease lock)
  lock_unlock-keeps name =
      on_live_hold moment lease owner (λ held. held) lock _
      (give_back_hold-keeps moment lease owner (Some (lock_post name)) (live_hold moment lock)
      (live_hold-live moment lock))

  lock_renew-keeps : IsKeeping moment lease owner lock (lock_renew moment owner lease lock)
  lock_renew-keeps =
      on_live_hold moment lease owner (λ held. held) lock _
      (renew_hold-keeps moment lease owner (live_hold moment lock) (live_hold-live moment lock))

module _ (name : List ℕ) (mode : HoldMode) (owner : ThreadOfClient) where
  -- a lock backs a claim
  abbrev Backs : ℕ → Tenure → Objects → Type 0
  Backs moment tenure objects = BacksAlone mode owner moment tenure (objects.mutexes name)

  by_call : (moment : ℕ) (key : List ℕ) (call : Call) (tenure : Tenure) (objects : Objects)
      → Backs moment tenure objects
      → Backs moment
      (tenure_by (claim_on Mutex name mode owner) moment (call_on key call) objects tenure)
      (objects_after objects moment (call_on key call))
  by_call moment key (calls.Lock (Try caller lease)) tenure objects backs =
      alone_by_owner (λ lock. lock) objects.mutexes name owner moment tenure key
      (lock_try moment caller lease (objects.mutexes key)) lease caller
      (lock_try-keeps moment caller lease (objects.mutexes key)) mode backs
  by_call moment key (calls.Lock (Unlock caller rest)) tenure objects backs =
      alone_by_owner (λ lock. lock) objects.mutexes name owner moment tenure key
      (lock_unlock key moment caller rest (objects.mutexes key)) rest caller
      (lock_unlock-keeps moment caller rest (objects.mutexes key) key) mode backs
  by_call moment key (calls.Lock (Renew caller lease)) tenure objects backs =
      alone_by_owner (λ lock. lock) objects.mutexes name owner moment tenure key
      (lock_renew moment caller lease (objects.mutexes key)) lease caller
      (lock_renew-keeps moment caller lease (objects.mutexes key)) mode backs
  by_call moment key (calls.Lock Force) tenure objects backs =
      alone_by_operator (λ lock. lock) objects.mutexes name owner moment tenure key
      (lock_force key moment (objects.mutexes key))
      (end_hold-ends moment (Some (lock_post key)) (objects.mutexes key)) mode backs
  -- a call on an object of another kind leaves every lock alone
  by_call moment key call tenure objects backs =
      subst (λ t. Backs moment t objects)
      (sym (unconcerned (claim_on Mutex name mode owner) moment (call_on key call) objects tenure
      refl)) backs

pub mutex_law : ClaimLaw Mutex
mutex_law = record {
  Backs = Backs;
  kept = λ name mode owner. record {
    at_start = alone_at_start mode owner 0;
    by_time = λ m n tenure objects. alone_later mode owner m n tenure (objects.mutexes name);
    by_call = by_call name mode owner;
  };
  apart = λ name m n o p conflict moment t u objects.
      alone_apart m n o p moment t u (objects.mutexes name)
      (of_two_owners (claim_on Mutex name m o) (claim_on Mutex name n p) conflict);
}
