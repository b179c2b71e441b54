-- What a call on a read-write lock leaves of the tenures of its owners: while a tenure is current
-- its owner has the hold, until the tenure's deadline.
use Rattle.std.proofs.Common.{◌≡◌, ◌≤◌, ℕ, ◌+◌, true, false, not, ◌&&◌, ◌||◌, [], ◌∷◌, Some, None, ◌⊎◌, inl, inr, if◌then◌else◌, refl, sym, ap, ◌∙◌, subst, arith}
use Rattle.std.proofs.lemmas.Bool.{cond_both, cond-true, cond-false, false≢true}
use Rattle.std.proofs.lemmas.Bool.Decides.{nat_tests}
use Rattle.lr_names.specs.Owner.{ThreadOfClient, same_owner}
use Rattle.lr_objects.specs.declared.access.Access.{Access}
use Rattle.lr_objects.specs.declared.reply.Reply.{Reply}
use Rattle.lr_objects.specs.declared.reply.Reply.TheVariants.{Granted, Busy, Kept, Freed, NotHeld, Renewed, Lost, TooDeep, TooMany}
use Rattle.lr_model.specs.declared.read_write_hold.ReadWriteHold.{ReadWriteHold}
use Rattle.lr_model.specs.Moment.{is_lease, is_live}
use Rattle.lr_model.specs.Outcome.{with_lease}
use Rattle.lr_model.specs.ReadWrite.{ReadWriteLock, LockOutcome, is_write, same_access, is_hold_of, hold_of, live_holds, with_hold, without_hold, first_hold}
use Rattle.lr_model.specs.ReadWriteHolds.{holds_conflict, MayStandBeside, AreApart}
use Rattle.lr_model.specs.Tenure.{Tenure, is_current, no_tenure, tenure_by_reply}
use Rattle.lr_model.proofs.ReadWriteFacts.{same_owner-Decides, HasKey, has_key, is_hold_of-own, either_way, some_one, none_some, find-some, find-passes, find-filter}
use Rattle.lr_model.proofs.ReadWriteLaws.{Becomes, Refused, Joined, Changed, Ended, IsBecoming, is_refusal, is_holding, beside-sym, apart-live, apart-becomes}

-- the lock has the owner's hold, until the tenure's deadline
pub record HasHoldOf (owner : ThreadOfClient) (access : Access) (tenure : Tenure)
    (lock : ReadWriteLock) : Type 0 where
  pub hold : ReadWriteHold
  pub found : hold_of owner access lock ≡ Some hold
  pub until : hold.deadline ≡ tenure.deadline

-- no two holds of the lock conflict, and while the tenure is current the owner has the hold
pub record BacksHold (owner : ThreadOfClient) (access : Access) (moment : ℕ) (tenure : Tenure)
    (lock : ReadWriteLock) : Type 0 where
  pub apart : AreApart lock
  pub held_while : is_current tenure moment ≡ true → HasHoldOf owner access tenure lock

-- ---- which holds a lock has

module _ (owner : ThreadOfClient) (access : Access) where
  -- a hold that comes is found
  found-with : (hold : ReadWriteHold) → HasKey hold owner access → (lock : ReadWriteLock)
      → hold_of owner access (with_hold hold lock) ≡ Some hold
  found-with hold key [] =
      cond-true (is_hold_of owner access hold) (Some hold) None
      (subst (λ o. is_hold_of o access hold ≡ true) key.owner_is
      (subst (λ a. is_hold_of hold.owner a hold ≡ true) key.access_is (is_hold_of-own hold)))
  found-with hold key (first ∷ rest) =
      let own : is_hold_of owner access hold ≡ true =
      subst (λ o. is_hold_of o access hold ≡ true) key.owner_is
      (subst (λ a. is_hold_of hold.owner a hold ≡ true) key.access_is (is_hold_of-own hold)) in
      let same : is_hold_of hold.owner hold.access first ≡ is_hold_of owner access first =
      λ i. is_hold_of (key.owner_is i) (key.access_is i) first in
      cond_both (is_hold_of hold.owner hold.access first) (hold ∷ rest)
      (first ∷ with_hold hold rest) (λ l. hold_of owner access l ≡ Some hold)
      (λ here. cond-true (is_hold_of owner access hold) (Some hold) (hold_of owner access rest) own)
      (λ there. cond-false (is_hold_of owner access first) (Some first)
      (hold_of owner access (with_hold hold rest)) (sym same ∙ there)
      ∙ found-with hold key rest)

  -- another hold that comes, in the place of one or last, changes nothing of what is found
  other-with : (hold : ReadWriteHold) → is_hold_of owner access hold ≡ false
      → (lock : ReadWriteLock)
      → hold_of owner access (with_hold hold lock) ≡ hold_of owner access lock
  other-with hold other [] = cond-false (is_hold_of owner access hold) (Some hold) None other
  other-with hold other (first ∷ rest) =
      cond_both (is_hold_of hold.owner hold.access first) (hold ∷ rest)
      (first ∷ with_hold hold rest)
      (λ l. hold_of owner access l ≡ hold_of owner access (first ∷ rest))
      (λ here.
      let key = has_key hold.owner hold.access first here in
      let too : is_hold_of owner access first ≡ false =
      (λ i. same_owner (key.owner_is i) owner && same_access (key.access_is i) access) ∙ other in
      cond-false (is_hold_of owner access hold) (Some hold) (hold_of owner access rest) other
      ∙ sym (cond-false (is_hold_of owner access first) (Some first) (hold_of owner access rest)
      too))
      (λ there.
      ap (λ o. if is_hold_of owner access first then Some first else o)
      (other-with hold other rest))

  -- so does another that goes
  other-without : (o : ThreadOfClient) (a : Access)
      → (same_owner o owner && same_access a access) ≡ false → (lock : ReadWriteLock)
      → hold_of owner access (without_hold o a lock) ≡ hold_of owner access lock
  other-without o a other [] = refl
  other-without o a other (first ∷ rest) =
      cond_both (is_hold_of o a first) rest (first ∷ without_hold o a rest)
      (λ l. hold_of owner access l ≡ hold_of owner access (first ∷ rest))
      (λ here.
      let key = has_key o a first here in
      let too : is_hold_of owner access first ≡ false =
      (λ i. same_owner (key.owner_is i) owner && same_access (key.access_is i) access) ∙ other in
      sym (cond-false (is_hold_of owner access first) (Some first) (hold_of owner access rest)
      too))
      (λ there.
      ap (λ h. if is_hold_of owner access first then Some first else h)
      (other-without o a other rest))

-- ---- two tenures don't conflict

self_peace : (hold : ReadWriteHold) → holds_conflict hold hold ≡ false
self_peace hold =
    ap (λ same. not same && (is_write hold.access || is_write hold.access))
    ((same_owner-Decides hold.owner hold.owner).1 refl)

-- no two holds that are found conflict
pub found_in_peace : (o p : ThreadOfClient) (m n : Access) (a b : ReadWriteHold)
    (lock : ReadWriteLock) → AreApart lock → hold_of o m lock ≡ Some a → hold_of p n lock ≡ Some b
    → holds_conflict a b ≡ false
found_in_peace o p m n a b [] apart of_a of_b = absurd (none_some a (sym of_a))
found_in_peace o p m n a b (first ∷ rest) apart of_a of_b =
    by (either_way (is_hold_of o m first) (Some first) (hold_of o m rest) (Some a) of_a)
    (either_way (is_hold_of p n first) (Some first) (hold_of p n rest) (Some b) of_b)
    (λ in_a in_b. found_in_peace o p m n a b rest apart.1 in_a in_b)
  where
    by : ((is_hold_of o m first ≡ true) × (Some first ≡ Some a))
        ⊎ ((is_hold_of o m first ≡ false) × (hold_of o m rest ≡ Some a))
        → ((is_hold_of p n first ≡ true) × (Some first ≡ Some b))
        ⊎ ((is_hold_of p n first ≡ false) × (hold_of p n rest ≡ Some b))
        → (hold_of o m rest ≡ Some a → hold_of p n rest ≡ Some b → holds_conflict a b ≡ false)
        → holds_conflict a b ≡ false
    by (inl v) (inl w) later =
        (λ i. holds_conflict (sym (some_one first a v.1) i) (sym (some_one first b w.1) i))
        ∙ self_peace first
    by (inl v) (inr w) later =
        (λ i. holds_conflict (sym (some_one first a v.1) i) b)
        ∙ (find-some (is_hold_of p n) (MayStandBeside first) rest b w.1 apart.0).1.peace
    by (inr v) (inl w) later =
        (λ i. holds_conflict a (sym (some_one first b w.1) i))
        ∙ (beside-sym first a
        (find-some (is_hold_of o m) (MayStandBeside first) rest a v.1 apart.0).1).peace
    by (inr v) (inr w) later = later v.1 w.1

-- ---- the tenures of owners, by what becomes of the lock

-- what is current later is current before
current_before : (tenure : Tenure) (m n : ℕ)
    → m ≤ n → is_current tenure n ≡ true → is_current tenure m ≡ true
current_before tenure m n le current = grind (arith, nat_tests)

-- the deadline of what is current is ahead
current_live : (tenure : Tenure) (hold : ReadWriteHold) (moment : ℕ)
    → is_current tenure moment ≡ true → hold.deadline ≡ tenure.deadline
    → is_live hold.deadline moment ≡ true
current_live tenure hold moment current until = grind (arith, nat_tests)

module _ (owner : ThreadOfClient) (access : Access) where
  -- before the first call
  pub backs_at_start : (moment : ℕ) → BacksHold owner access moment no_tenure []
  backs_at_start moment =
      record { apart = tt; held_while = λ current. absurd (false≢true current) }

  -- time passes
  pub backs_later : (m n : ℕ) (tenure : Tenure) (lock : ReadWriteLock) → m ≤ n
      → BacksHold owner access m tenure lock → BacksHold owner access n tenure lock
  backs_later m n tenure lock le backs = record {
    apart = backs.apart;
    held_while = λ current. backs.held_while (current_before tenure m n le current);
  }

  -- what has expired goes
  backs_live : (moment : ℕ) (tenure : Tenure) (lock : ReadWriteLock)
      → BacksHold owner access moment tenure lock
      → BacksHold owner access moment tenure (live_holds moment lock)
  backs_live moment tenure lock backs = record {
    apart = apart-live moment lock backs.apart;
    held_while = λ current.
        let now = backs.held_while current in
        record {
          hold = now.hold;
          found =
              find-filter (is_hold_of owner access) (λ h. is_live h.deadline moment) lock
              now.hold now.found
              (current_live tenure now.hold moment current now.until);
          until = now.until;
        };
  }

-- a refusal changes no tenure
refused_tenure : (moment lease : ℕ) (reply : Reply) (tenure : Tenure) → is_refusal reply ≡ true
    → tenure_by_reply moment lease reply tenure ≡ tenure
refused_tenure moment lease (Busy remaining) tenure refused = refl
refused_tenure moment lease NotHeld tenure refused = refl
refused_tenure moment lease Lost tenure refused = refl
refused_tenure moment lease TooDeep tenure refused = refl
refused_tenure moment lease TooMany tenure refused = refl
refused_tenure moment lease _ tenure refused = absurd (false≢true refused)

-- whoever goes on to hold has a tenure until the lease has passed
holding_tenure : (moment lease : ℕ) (reply : Reply) (tenure : Tenure) → is_holding reply ≡ true
    → (tenure_by_reply moment lease reply tenure).deadline ≡ moment + lease
holding_tenure moment lease Granted tenure holds = refl
holding_tenure moment lease Kept tenure holds = refl
holding_tenure moment lease Renewed tenure holds = refl
holding_tenure moment lease _ tenure holds = absurd (false≢true holds)

-- What a call of an owner for an access leaves: its own tenure changes by the reply, others stay.
pub record KeepsReadWriteHolds (moment lease : ℕ) (caller : ThreadOfClient) (access : Access)
    (before : ReadWriteLock) (reply : Reply) (after : ReadWriteLock) : Type 0 where
  pub own : (tenure : Tenure) → BacksHold caller access moment tenure before
      → BacksHold caller access moment (tenure_by_reply moment lease reply tenure) after
  pub others : (owner : ThreadOfClient) (other : Access) (tenure : Tenure)
      → (same_owner caller owner && same_access access other) ≡ false
      → BacksHold owner other moment tenure before → BacksHold owner other moment tenure after

module _ (moment lease : ℕ) (caller : ThreadOfClient) (access : Access) where
  -- the owner has the hold that came
  holds_now : (lock new : ReadWriteLock) (hold : ReadWriteHold) (reply : Reply) (tenure : Tenure)
      → is_holding reply ≡ true → hold.deadline ≡ moment + lease
      → hold_of caller access new ≡ Some hold → AreApart new
      → BacksHold caller access moment (tenure_by_reply moment lease reply tenure) new
  holds_now lock new hold reply tenure holds until found apart = record {
    apart = apart;
    held_while = λ current. record {
      hold = hold;
      found = found;
      until = until ∙ sym (holding_tenure moment lease reply tenure holds);
    };
  }

  -- what another has is what it had
  other_stays : (owner : ThreadOfClient) (other : Access) (tenure : Tenure)
      (lock new : ReadWriteLock) → hold_of owner other new ≡ hold_of owner other lock
      → AreApart new → BacksHold owner other moment tenure lock
      → BacksHold owner other moment tenure new
  other_stays owner other tenure lock new same apart backs = record {
    apart = apart;
    held_while = λ current.
        let now = backs.held_while current in
        record { hold = now.hold; found = same ∙ now.found; until = now.until };
  }

  pub becomes-keeps : (lock : ReadWriteLock) (reply : Reply) (new : ReadWriteLock)
      → Becomes caller access (moment + lease) lock reply new
      → KeepsReadWriteHolds moment lease caller access lock reply new
  becomes-keeps lock reply new (Refused _ refused) = record {
    own = λ tenure backs.
        subst (λ t. BacksHold caller access moment t lock)
        (sym (refused_tenure moment lease reply tenure refused)) backs;
    others = λ owner other tenure apart backs. backs;
  }
  becomes-keeps lock reply new (Joined beside room) =
      let hold : ReadWriteHold = first_hold caller access (moment + lease) in
      let still : AreApart lock → AreApart (with_hold hold lock) = λ apart.
      apart-becomes caller access (moment + lease) lock Granted (with_hold hold lock) apart
      (Joined beside room) in
      record {
        own = λ tenure backs.
            holds_now lock (with_hold hold lock) hold Granted tenure refl refl
            (found-with caller access hold (record { owner_is = refl; access_is = refl }) lock)
            (still backs.apart);
        others = λ owner other tenure apart backs.
            other_stays owner other tenure lock (with_hold hold lock)
            (other-with owner other hold apart lock) (still backs.apart) backs;
      }
  becomes-keeps lock reply new (Changed _ holds own found count counted) =
      let key : HasKey own caller access =
      has_key caller access own (find-passes (is_hold_of caller access) lock own found) in
      let hold : ReadWriteHold = record own { count = count; deadline = moment + lease } in
      let still : AreApart lock → AreApart (with_hold hold lock) = λ apart.
      apart-becomes caller access (moment + lease) lock reply (with_hold hold lock) apart
      (Changed reply holds own found count counted) in
      record {
        own = λ tenure backs.
            holds_now lock (with_hold hold lock) hold reply tenure holds refl
            (found-with caller access hold
            (record { owner_is = key.owner_is; access_is = key.access_is }) lock)
            (still backs.apart);
        others = λ owner other tenure apart backs.
            other_stays owner other tenure lock (with_hold hold lock)
            (other-with owner other hold
            ((λ i. same_owner (key.owner_is i) owner && same_access (key.access_is i) other)
            ∙ apart) lock)
            (still backs.apart) backs;
      }
  becomes-keeps lock reply new (Ended own found) =
      let key : HasKey own caller access =
      has_key caller access own (find-passes (is_hold_of caller access) lock own found) in
      let left : ReadWriteLock = without_hold own.owner own.access lock in
      let still : AreApart lock → AreApart left = λ apart.
      apart-becomes caller access (moment + lease) lock Freed left apart (Ended own found) in
      record {
        own = λ tenure backs. record {
          apart = still backs.apart;
          held_while = λ current. absurd (false≢true current);
        };
        others = λ owner other tenure apart backs.
            other_stays owner other tenure lock left
            (other-without owner other own.owner own.access
            ((λ i. same_owner (key.owner_is i) owner && same_access (key.access_is i) other)
            ∙ apart) lock)
            (still backs.apart) backs;
      }

  -- A function sees the live holds of a lock, with a lease that may be refused: what is refused
  -- changes nothing.
  pub leased : (lock : ReadWriteLock) (outcome : LockOutcome)
      → IsBecoming caller access (moment + lease) (live_holds moment lock) outcome
      → KeepsReadWriteHolds moment lease caller access lock
      (with_lease lease lock outcome).reply (with_lease lease lock outcome).object
  leased lock outcome becomes =
      let keeps = becomes-keeps (live_holds moment lock) outcome.reply outcome.object becomes in
      cond_both (is_lease lease) _ _
      (λ (o : LockOutcome).
      KeepsReadWriteHolds moment lease caller access lock o.reply o.object)
      (λ good. record {
        own = λ tenure backs. keeps.own tenure (backs_live caller access moment tenure lock backs);
        others = λ owner other tenure apart backs.
            keeps.others owner other tenure apart
            (backs_live owner other moment tenure lock backs);
      })
      (λ bad. record {
        own = λ tenure backs. backs;
        others = λ owner other tenure apart backs. backs;
      })
