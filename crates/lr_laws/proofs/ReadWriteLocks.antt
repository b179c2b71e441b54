-- The law of the read-write lock: a current tenure of a claim on a lock is a hold that the lock has,
-- to read or to write, with its deadline. Two holds of a lock never conflict.
use Rattle.std.proofs.Common.{◌≡◌, ℕ, List, Bool, true, false, not, ◌&&◌, ◌||◌, if◌then◌else◌, refl, sym, ap, ◌∙◌, subst}
use Rattle.std.specs.Str.{bytes_eq}
use Rattle.std.proofs.lemmas.Bool.{false≢true, and_parts}
use Rattle.std.proofs.lemmas.Slice.Eq.{bytes_eq-Decides}
use Rattle.lr_names.specs.Owner.{ThreadOfClient, same_owner}
use Rattle.lr_names.specs.declared.kind.Kind.TheVariants.{Rw}
use Rattle.lr_objects.specs.Op.{call_on}
use Rattle.lr_objects.specs.declared.access.Access.{Access}
use Rattle.lr_objects.specs.declared.access.Access.TheVariants.{Read, Write}
use Rattle.lr_objects.specs.declared.kinds.Call.{Call}
use Rattle.lr_objects.specs.declared.kinds.Call.TheVariants as calls
use Rattle.lr_objects.specs.declared.read_write.ReadWriteCall.TheVariants.{Take, Unlock, Renew}
use Rattle.lr_model.specs.Answer.{Objects, objects_after}
use Rattle.lr_model.specs.Claim.{HoldMode, Exclusive, Shared, is_exclusive, same_mode}
use Rattle.lr_model.specs.ReadWrite.{ReadWriteLock, LockOutcome, is_write, same_access, is_hold_of, live_holds, mode_of, read, write, give_back, renew, rw_read, rw_write, rw_unlock, rw_renew}
use Rattle.lr_model.specs.Table.{put}
use Rattle.lr_model.specs.Tenure.{Tenure, conflicts, is_current, tenure_by_reply, same_object}
use Rattle.lr_model.proofs.ReadWriteFacts.{same_owner-sym, same_access-is, same_owner-Decides, HasKey, has_key, find-passes}
use Rattle.lr_model.proofs.ReadWriteLaws.{read-becomes, write-becomes, give_back-becomes, renew-becomes}
use Rattle.lr_laws.proofs.NameTables.{put_at}
use Rattle.lr_laws.proofs.Claims.{claim_on}
use Rattle.lr_laws.proofs.ClaimLaws.{ClaimLaw, tenure_by, unconcerned}
use Rattle.lr_laws.proofs.ReadWriteHoldSteps.{BacksHold, KeepsReadWriteHolds, backs_at_start, backs_later, found_in_peace, leased}

-- the access of the holds that are claimed in a mode
abbrev access_of : HoldMode → Access
access_of Shared = Read
access_of Exclusive = Write

-- modes tell accesses apart
same_mode-access : (mode : HoldMode) (access : Access)
    → same_mode mode (mode_of access) ≡ same_access access (access_of mode)
same_mode-access Shared Read = refl
same_mode-access Shared Write = refl
same_mode-access Exclusive Read = refl
same_mode-access Exclusive Write = refl

is_write-access : (mode : HoldMode) → is_write (access_of mode) ≡ is_exclusive mode
is_write-access Shared = refl
is_write-access Exclusive = refl

swapped : (a b : Bool) → ((a && b) || false) ≡ (b && a)
swapped true true = refl
swapped true false = refl
swapped false true = refl
swapped false false = refl

-- a call of an owner on the lock of a key leaves what the claim's lock says of its tenure
module _ (table : List ℕ → ReadWriteLock) (name : List ℕ) (mode : HoldMode)
    (owner : ThreadOfClient) (moment : ℕ) (tenure : Tenure) (key : List ℕ) (outcome : LockOutcome)
    (access : Access) (lease : ℕ) (caller : ThreadOfClient)
    (keeps : KeepsReadWriteHolds moment lease caller access (table key) outcome.reply
    outcome.object) where
  -- the claim's tenure after the call
  abbrev tenure_if : Bool → Tenure
  tenure_if mine = if mine then tenure_by_reply moment lease outcome.reply tenure else tenure

  -- whether the call is of the claim's owner and access
  here_by_owner : (mine : Bool) → (same_owner caller owner && same_access access (access_of mode)) ≡ mine
      → BacksHold owner (access_of mode) moment tenure (table key)
      → BacksHold owner (access_of mode) moment (tenure_if mine) outcome.object
  here_by_owner false other backs = keeps.others owner (access_of mode) tenure other backs
  here_by_owner true mine backs =
      let both = and_parts (same_owner caller owner) (same_access access (access_of mode)) mine in
      let who : caller ≡ owner = (same_owner-Decides caller owner).0 both.0 in
      let what : access ≡ access_of mode = same_access-is access (access_of mode) both.1 in
      subst (λ o. BacksHold o (access_of mode) moment (tenure_if true) outcome.object) who
      (subst (λ a. BacksHold caller a moment (tenure_if true) outcome.object) what
      (keeps.own tenure
      (subst (λ a. BacksHold caller a moment tenure (table key)) (sym what)
      (subst (λ o. BacksHold o (access_of mode) moment tenure (table key)) (sym who) backs))))

  by_owner : BacksHold owner (access_of mode) moment tenure (table name)
      → BacksHold owner (access_of mode) moment
      (tenure_if
      (((bytes_eq name key && same_mode mode (mode_of access)) && same_owner owner caller) || false))
      (put bytes_eq table key outcome.object name)
  by_owner backs =
      put_at (λ here lock. BacksHold owner (access_of mode) moment
      (tenure_if
      (((here && same_mode mode (mode_of access)) && same_owner owner caller) || false)) lock)
      table key name outcome.object
      (λ here.
      let mine : Bool = same_owner caller owner && same_access access (access_of mode) in
      let is : ((same_mode mode (mode_of access) && same_owner owner caller) || false) ≡ mine =
      swapped (same_mode mode (mode_of access)) (same_owner owner caller)
      ∙ (λ i. same_owner-sym owner caller i && same_mode-access mode access i) in
      subst (λ b. BacksHold owner (access_of mode) moment (tenure_if b) outcome.object) (sym is)
      (here_by_owner mine refl
      (subst (λ n. BacksHold owner (access_of mode) moment tenure (table n))
      ((bytes_eq-Decides name key).0 here) backs)))
      (λ there. backs)

module _ (name : List ℕ) (mode : HoldMode) (owner : ThreadOfClient) where
  -- a lock backs a claim
  abbrev Backs : ℕ → Tenure → Objects → Type 0
  Backs moment tenure objects =
      BacksHold owner (access_of mode) moment tenure (objects.read_write_locks name)

  by_call : (moment : ℕ) (key : List ℕ) (call : Call) (tenure : Tenure) (objects : Objects)
      → Backs moment tenure objects
      → Backs moment
      (tenure_by (claim_on Rw name mode owner) moment (call_on key call) objects tenure)
      (objects_after objects moment (call_on key call))
  by_call moment key (calls.ReadWrite (Take Read caller lease)) tenure objects backs =
      let lock : ReadWriteLock = objects.read_write_locks key in
      let live : ReadWriteLock = live_holds moment lock in
      by_owner objects.read_write_locks name mode owner moment tenure key
      (rw_read moment caller lease lock) Read lease caller
      (leased moment lease caller Read lock (read moment caller lease live)
      (read-becomes moment caller lease live)) backs
  by_call moment key (calls.ReadWrite (Take Write caller lease)) tenure objects backs =
      let lock : ReadWriteLock = objects.read_write_locks key in
      let live : ReadWriteLock = live_holds moment lock in
      by_owner objects.read_write_locks name mode owner moment tenure key
      (rw_write moment caller lease lock) Write lease caller
      (leased moment lease caller Write lock (write moment caller lease live)
      (write-becomes moment caller lease live)) backs
  by_call moment key (calls.ReadWrite (Unlock access caller rest)) tenure objects backs =
      let lock : ReadWriteLock = objects.read_write_locks key in
      let live : ReadWriteLock = live_holds moment lock in
      by_owner objects.read_write_locks name mode owner moment tenure key
      (rw_unlock key moment caller access rest lock) access rest caller
      (leased moment rest caller access lock (give_back key moment caller access rest live)
      (give_back-becomes moment caller rest key access live)) backs
  by_call moment key (calls.ReadWrite (Renew access caller lease)) tenure objects backs =
      let lock : ReadWriteLock = objects.read_write_locks key in
      let live : ReadWriteLock = live_holds moment lock in
      by_owner objects.read_write_locks name mode owner moment tenure key
      (rw_renew moment caller access lease lock) access lease caller
      (leased moment lease caller access lock (renew moment caller access lease live)
      (renew-becomes moment caller lease access live)) backs
  -- a call on an object of another kind leaves every lock alone
  by_call moment key call tenure objects backs =
      subst (λ t. Backs moment t objects)
      (sym (unconcerned (claim_on Rw name mode owner) moment (call_on key call) objects tenure
      refl)) backs

-- two holds that back claims don't conflict, so the claims don't
claims_apart : (name : List ℕ) (m n : HoldMode) (o p : ThreadOfClient)
    → conflicts (claim_on Rw name m o) (claim_on Rw name n p) ≡ true
    → (moment : ℕ) (t u : Tenure) (lock : ReadWriteLock)
    → BacksHold o (access_of m) moment t lock → BacksHold p (access_of n) moment u lock
    → is_current t moment ≡ true → is_current u moment ≡ true → ⊥
claims_apart name m n o p conflict moment t u lock first second of_first of_second =
    let a = first.held_while of_first in
    let b = second.held_while of_second in
    let of_a : HasKey a.hold o (access_of m) =
    has_key o (access_of m) a.hold (find-passes (is_hold_of o (access_of m)) lock a.hold a.found) in
    let of_b : HasKey b.hold p (access_of n) =
    has_key p (access_of n) b.hold (find-passes (is_hold_of p (access_of n)) lock b.hold b.found) in
    let others = and_parts (same_object (claim_on Rw name m o) Rw name && not (same_owner o p))
    (is_exclusive m || is_exclusive n) conflict in
    let two = and_parts (same_object (claim_on Rw name m o) Rw name) (not (same_owner o p))
    others.0 in
    let peace : (not (same_owner o p) && (is_exclusive m || is_exclusive n)) ≡ false =
    (λ i. not (same_owner (sym of_a.owner_is i) (sym of_b.owner_is i))
    && (((sym (is_write-access m) ∙ ap is_write (sym of_a.access_is)) i)
    || ((sym (is_write-access n) ∙ ap is_write (sym of_b.access_is)) i)))
    ∙ found_in_peace o p (access_of m) (access_of n) a.hold b.hold lock first.apart a.found b.found in
    false≢true (sym peace ∙ (λ i. two.1 i && (is_exclusive m || is_exclusive n)) ∙ others.1)

pub read_write_law : ClaimLaw Rw
read_write_law = record {
  Backs = Backs;
  kept = λ name mode owner. record {
    at_start = backs_at_start owner (access_of mode) 0;
    by_time = λ m n tenure objects.
        backs_later owner (access_of mode) m n tenure (objects.read_write_locks name);
    by_call = by_call name mode owner;
  };
  apart = λ name m n o p conflict moment t u objects.
      claims_apart name m n o p conflict moment t u (objects.read_write_locks name);
}
