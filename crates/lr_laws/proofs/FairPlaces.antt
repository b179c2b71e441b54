-- Places in the queue of a fair lock: one stays until it is stale, or a call of its own owner
-- changes it, and an owner that is told to wait has one. The queue is any: of an owner's places, if
-- there were several, the first is the one that counts.
use Rattle.std.proofs.Common.{◌≡◌, ℕ, ◌+◌, ◌-◌, ◌<◌, ◌==◌, min, max, nat_lt, length, not, List, [], ◌∷◌, Bool, true, false, Option, Some, None, inl, inr, refl, sym, ap, ◌∙◌, subst, arith}
use Rattle.std.specs.Option.{option_or}
use Rattle.std.specs.Str.{bytes_eq}
use Rattle.std.proofs.lemmas.Bool.{cond_both, cond-true, cond-false, false_from_ne_true}
use Rattle.std.proofs.lemmas.Bool.Decides.{nat_tests}
use Rattle.std.proofs.lemmas.List.Folds.{find-append}
use Rattle.std.proofs.lemmas.Slice.Eq.{bytes_eq-Decides}
use Rattle.lr_limits.specs.Limits.{member_limit, hold_limit}
use Rattle.lr_names.specs.Owner.{ThreadOfClient, same_owner}
use Rattle.lr_objects.specs.FairCalls.{fair_owner}
use Rattle.lr_objects.specs.Op.{call_on}
use Rattle.lr_objects.specs.declared.fair.FairCall.{FairCall}
use Rattle.lr_objects.specs.declared.fair.FairCall.TheVariants.{Try, Unlock, Leave, Renew}
use Rattle.lr_objects.specs.declared.kinds.Call.{Call}
use Rattle.lr_objects.specs.declared.kinds.Call.TheVariants.{Fair}
use Rattle.lr_objects.specs.declared.reply.Reply.TheVariants.{Busy}
use Rattle.lr_model.specs.declared.hold.Hold.{Hold}
use Rattle.lr_model.specs.Answer.{Objects, reply_of, objects_after}
use Rattle.lr_model.specs.Fair.{FairPlace, FairLock, is_place_of, place_of, place_wait, live_places, without_place, with_later_place, with_last_place, wait_with, wait_for, take_turn, take_fair, leave_with, fair_try, fair_call}
use Rattle.lr_model.specs.Hold.{live_hold, take_hold}
use Rattle.lr_model.specs.Moment.{is_live, is_lease}
use Rattle.lr_model.specs.Outcome.{Outcome, with_lease}
use Rattle.lr_model.proofs.ReadWriteFacts.{either_way, none_some, some_one, find-passes, find-filter}
use Rattle.lr_laws.specs.FairTurns.{IsFairCallOf, HasPlaceUntil}
use Rattle.lr_laws.proofs.NameTables.{put_at}
use Rattle.lr_laws.proofs.Owners.{same_owner-Decides}

-- an owner's place is the owner's
pub place_of-owner : (owner : ThreadOfClient) (queue : List FairPlace) (place : FairPlace)
    → place_of owner queue ≡ Some place → place.owner ≡ owner
place_of-owner owner queue place found =
    (same_owner-Decides place.owner owner).0 (find-passes (is_place_of owner) queue place found)

-- a place that is one owner's isn't another's
one_place : (a b : ThreadOfClient) → (a ≡ b → ⊥) → (place : FairPlace)
    → is_place_of a place ≡ true → is_place_of b place ≡ false
one_place a b apart place of_a =
    false_from_ne_true _
    (λ of_b. apart (sym ((same_owner-Decides place.owner a).0 of_a)
    ∙ (same_owner-Decides place.owner b).0 of_b))

-- a call of another owner leaves the place
module _ (owner : ThreadOfClient) (place : FairPlace) (moment : ℕ) (other : ThreadOfClient)
    (apart : other ≡ owner → ⊥) where
  -- the place is the owner's in this queue
  abbrev Stands : List FairPlace → Type 0
  Stands queue = place_of owner queue ≡ Some place

  -- a place that isn't the owner's is passed over
  behind : (first : FairPlace) (rest : List FairPlace) → is_place_of other first ≡ true
      → Stands (first ∷ rest) → Stands rest
  behind first rest others found =
      sym (cond-false (is_place_of owner first) (Some first) (place_of owner rest)
      (one_place other owner apart first others)) ∙ found

  -- what the queue becomes
  in_live : moment < place.stale → (queue : List FairPlace)
      → Stands queue → Stands (live_places moment queue)
  in_live lasts queue found =
      find-filter (is_place_of owner) (λ p. is_live p.stale moment) queue place found
      (grind (arith, nat_tests))

  in_without : (queue : List FairPlace) → Stands queue → Stands (without_place other queue)
  in_without queue found =
      find-filter (is_place_of owner) (λ p. not (is_place_of other p)) queue place found
      (ap not (one_place owner other (λ same. apart (sym same)) place
      (find-passes (is_place_of owner) queue place found)))

  in_later : (stale : ℕ) (queue : List FairPlace)
      → Stands queue → Stands (with_later_place other stale queue)
  in_later stale [] found = found
  in_later stale (first ∷ rest) found =
      cond_both (is_place_of other first) _ _ Stands
      (λ others. cond-false (is_place_of owner first) _ (place_of owner rest)
      (one_place other owner apart first others) ∙ behind first rest others found)
      (λ not_others.
      elim (either_way (is_place_of owner first) (Some first) (place_of owner rest) (Some place)
      found) [
        | inl w ↦ cond-true (is_place_of owner first) (Some first) _ w.0 ∙ w.1
        | inr w ↦ cond-false (is_place_of owner first) (Some first) _ w.0
            ∙ in_later stale rest w.1
      ])

  in_longer : (stale : ℕ) (queue : List FairPlace)
      → Stands queue → Stands (with_last_place other stale queue)
  in_longer stale queue found =
      let longer : List FairPlace = record { owner = other; stale = stale } ∷ [] in
      find-append (is_place_of owner) queue longer
      ∙ ap (λ p. option_or p (place_of owner longer)) found

  -- what each step and each function leaves
  abbrev Keeps : Outcome FairLock → Type 0
  Keeps outcome = Stands outcome.object.queue

  by_wait_with : (wait : ℕ) (held : Option Hold) (queue : List FairPlace)
      (own : Option FairPlace) → Stands queue → Keeps (wait_with moment other wait held queue own)
  by_wait_with wait held queue None found =
      cond_both (nat_lt (length queue) member_limit) _ _ Keeps
      (λ room. in_longer (moment + wait + place_wait) queue found) (λ full. found)
  by_wait_with wait held queue (Some own) found =
      in_later (moment + wait + place_wait) queue found

  by_wait_for : (wait : ℕ) (queues : Bool) (held : Option Hold) (queue : List FairPlace)
      → Stands queue → Keeps (wait_for moment other wait queues held queue)
  by_wait_for wait true held queue found =
      by_wait_with wait held queue (place_of other queue) found
  by_wait_for wait false held queue found = found

  by_turn : (lease : ℕ) (queues : Bool) (queue : List FairPlace)
      → Stands queue → Keeps (take_turn moment other lease queues queue)
  by_turn lease queues [] found = found
  by_turn lease queues (first ∷ rest) found =
      cond_both (is_place_of other first) _ _ Keeps
      (λ others. behind first rest others found)
      (λ not_others.
      by_wait_for (min place_wait (first.stale - moment)) queues None (first ∷ rest) found)

  by_take : (lease : ℕ) (queues : Bool) (queue : List FairPlace) (held : Option Hold)
      → Stands queue → Keeps (take_fair moment other lease queues queue held)
  by_take lease queues queue None found = by_turn lease queues queue found
  by_take lease queues queue (Some hold) found =
      cond_both (same_owner hold.owner other) _ _ Keeps
      (λ same. found)
      (λ of_another. by_wait_for (hold.deadline - moment) queues (Some hold) queue found)

  by_leave_with : (name : List ℕ) (held : Option Hold) (queue : List FairPlace)
      (own : Option FairPlace) → Stands queue → Keeps (leave_with name other held queue own)
  by_leave_with name held queue None found = found
  by_leave_with name held queue (Some own) found = in_without queue found

  by_lease : (lease : ℕ) (lock : FairLock) (outcome : Outcome FairLock)
      → Stands lock.queue → Keeps outcome → Keeps (with_lease lease lock outcome)
  by_lease lease lock outcome found kept =
      cond_both (is_lease lease) _ _ Keeps (λ good. kept) (λ bad. found)

-- on one lock
pub place_stays : (owner : ThreadOfClient) (place : FairPlace) (name : List ℕ) (moment : ℕ)
    (call : FairCall) (lock : FairLock)
    → (fair_owner call ≡ owner → ⊥) → moment < place.stale
    → place_of owner lock.queue ≡ Some place
    → place_of owner (fair_call name moment call lock).object.queue ≡ Some place
place_stays owner place name moment (Try other lease queues) lock apart lasts found =
    by_lease owner place moment other apart lease lock _ found
    (by_take owner place moment other apart lease queues (live_places moment lock.queue)
    (live_hold moment lock.held) (in_live owner place moment other apart lasts lock.queue found))
place_stays owner place name moment (Unlock other rest) lock apart lasts found =
    by_lease owner place moment other apart rest lock _ found
    (in_live owner place moment other apart lasts lock.queue found)
place_stays owner place name moment (Leave other) lock apart lasts found =
    by_leave_with owner place moment other apart name (live_hold moment lock.held)
    (live_places moment lock.queue) (place_of other (live_places moment lock.queue))
    (in_live owner place moment other apart lasts lock.queue found)
place_stays owner place name moment (Renew other lease) lock apart lasts found =
    by_lease owner place moment other apart lease lock _ found found

-- and of all objects
pub place_stays-call : (owner : ThreadOfClient) (place : FairPlace) (name : List ℕ)
    (objects : Objects) (moment : ℕ) (key : List ℕ) (call : Call)
    → (IsFairCallOf name owner (call_on key call) → ⊥) → moment < place.stale
    → place_of owner (objects.fair_locks name).queue ≡ Some place
    → place_of owner ((objects_after objects moment (call_on key call)).fair_locks name).queue
    ≡ Some place
place_stays-call owner place name objects moment key (Fair call) apart lasts found =
    put_at (λ here (lock : FairLock). place_of owner lock.queue ≡ Some place)
    objects.fair_locks key name (fair_call key moment call (objects.fair_locks key)).object
    (λ here.
    let same : name ≡ key = (bytes_eq-Decides name key).0 here in
    place_stays owner place key moment call (objects.fair_locks key)
    (λ own. apart (record { on_it = sym same; by_owner = ap Some own })) lasts
    (subst (λ n. place_of owner (objects.fair_locks n).queue ≡ Some place) same found))
    (λ there. found)
-- a call on an object of another kind leaves every lock alone
place_stays-call owner place name objects moment key call apart lasts found = found

-- An owner that asks for a place and is told to wait has one.
module _ (owner : ThreadOfClient) where
  -- a place with a later stale moment
  abbrev later : ℕ → FairPlace → FairPlace
  later stale place = record { owner = place.owner; stale = max place.stale stale }

  -- so it is found afterwards
  in_own_later : (stale : ℕ) (queue : List FairPlace) (place : FairPlace)
      → place_of owner queue ≡ Some place
      → place_of owner (with_later_place owner stale queue) ≡ Some (later stale place)
  in_own_later stale [] place found = absurd (none_some place (sym found))
  in_own_later stale (first ∷ rest) place found =
      cond_both (is_place_of owner first) _ _
      (λ queue. place_of owner queue ≡ Some (later stale place))
      (λ own.
      let is : first ≡ place = some_one first place
      (sym (cond-true (is_place_of owner first) (Some first) (place_of owner rest) own) ∙ found) in
      cond-true (is_place_of owner first) (Some (later stale first)) (place_of owner rest) own
      ∙ ap (λ p. Some (later stale p)) is)
      (λ others.
      cond-false (is_place_of owner first) (Some first) _ others
      ∙ in_own_later stale rest place
      (sym (cond-false (is_place_of owner first) (Some first) (place_of owner rest) others)
      ∙ found))

  -- and a new one is found where there was none
  in_own_longer : (stale : ℕ) (queue : List FairPlace) → place_of owner queue ≡ None
      → place_of owner (with_last_place owner stale queue)
      ≡ Some (record { owner = owner; stale = stale })
  in_own_longer stale queue none =
      let place : FairPlace = record { owner = owner; stale = stale } in
      find-append (is_place_of owner) queue (place ∷ [])
      ∙ ap (λ p. option_or p (place_of owner (place ∷ []))) none
      ∙ cond-true (same_owner owner owner) (Some place) None
      ((same_owner-Decides owner owner).1 refl)

  module _ (moment millis : ℕ) where
    -- a reply that tells how long to wait leaves a place
    abbrev Leaves : Outcome FairLock → Type 0
    Leaves outcome =
        outcome.reply ≡ Busy millis
        → HasPlaceUntil owner (moment + millis + place_wait) outcome.object

    busy_for : (wait : ℕ) → Busy wait ≡ Busy millis → wait ≡ millis
    busy_for wait busy = cc

    by_own_place : (wait : ℕ) (held : Option Hold) (queue : List FairPlace)
        (own : Option FairPlace) → place_of owner queue ≡ own
        → Leaves (wait_with moment owner wait held queue own)
    by_own_place wait held queue None none =
        cond_both (nat_lt (length queue) member_limit) _ _ Leaves
        (λ room busy. record {
          place = record { owner = owner; stale = moment + wait + place_wait };
          found = in_own_longer (moment + wait + place_wait) queue none;
          mine = refl;
          lasts = omega (arith, busy_for wait busy);
        })
        (λ full busy. absurd (cc busy))
    by_own_place wait held queue (Some place) found = λ busy. record {
      place = later (moment + wait + place_wait) place;
      found = in_own_later (moment + wait + place_wait) queue place found;
      mine = place_of-owner owner queue place found;
      lasts = omega (arith, busy_for wait busy);
    }

    by_own_wait : (wait : ℕ) (held : Option Hold) (queue : List FairPlace)
        → Leaves (wait_for moment owner wait true held queue)
    by_own_wait wait held queue = by_own_place wait held queue (place_of owner queue) refl

    by_own_turn : (lease : ℕ) (queue : List FairPlace)
        → Leaves (take_turn moment owner lease true queue)
    by_own_turn lease [] = λ busy. absurd (cc busy)
    by_own_turn lease (first ∷ rest) =
        cond_both (is_place_of owner first) _ _ Leaves
        (λ own busy. absurd (cc busy))
        (λ others. by_own_wait (min place_wait (first.stale - moment)) None (first ∷ rest))

    -- an owner that holds the lock isn't told to wait
    never_busy : (lease : ℕ) (hold : Hold) → same_owner hold.owner owner ≡ true
        → (take_hold moment owner lease (Some hold)).reply ≡ Busy millis → ⊥
    never_busy lease hold same =
        rw same (cond_both (hold.count == hold_limit) _ _
        (λ (o : Outcome (Option Hold)). o.reply ≡ Busy millis → ⊥) (λ full busy. cc)
        (λ room busy. cc))

    by_own_take : (lease : ℕ) (queue : List FairPlace) (held : Option Hold)
        → Leaves (take_fair moment owner lease true queue held)
    by_own_take lease queue None = by_own_turn lease queue
    by_own_take lease queue (Some hold) =
        cond_both (same_owner hold.owner owner) _ _ Leaves
        (λ same busy. absurd (never_busy lease hold same busy))
        (λ of_another. by_own_wait (hold.deadline - moment) (Some hold) queue)

-- on one lock
pub place_left : (owner : ThreadOfClient) (moment lease millis : ℕ) (lock : FairLock)
    → (fair_try moment owner lease true lock).reply ≡ Busy millis
    → HasPlaceUntil owner (moment + millis + place_wait)
    (fair_try moment owner lease true lock).object
place_left owner moment lease millis lock =
    cond_both (is_lease lease) _ _ (Leaves owner moment millis)
    (λ good.
    by_own_take owner moment millis lease (live_places moment lock.queue)
    (live_hold moment lock.held))
    (λ bad busy. absurd (cc busy))

-- and of all objects
pub place_left-call : (owner : ThreadOfClient) (name : List ℕ) (objects : Objects)
    (moment lease millis : ℕ)
    → reply_of objects moment (call_on name (Fair (Try owner lease true))) ≡ Busy millis
    → HasPlaceUntil owner (moment + millis + place_wait)
    ((objects_after objects moment (call_on name (Fair (Try owner lease true)))).fair_locks name)
place_left-call owner name objects moment lease millis busy =
    subst (HasPlaceUntil owner (moment + millis + place_wait))
    (sym (cond-true (bytes_eq name name)
    (fair_try moment owner lease true (objects.fair_locks name)).object (objects.fair_locks name)
    ((bytes_eq-Decides name name).1 refl)))
    (place_left owner moment lease millis (objects.fair_locks name) busy)
