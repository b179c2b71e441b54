-- Whose turn it is, and how the others wait.
use Rattle.std.proofs.Common.{◌≡◌, ◌≤◌, ◌<◌, ◌-◌, ◌+◌, ℕ, min, nat_lt, Bool, true, false, List, [], ◌∷◌, length, Option, Some, None, option_map, refl, sym, ap, ◌∙◌, subst, arith}
use Rattle.std.proofs.lemmas.Bool.{cond-true, cond-false}
use Rattle.std.proofs.lemmas.Bool.Decides.{nat_tests}
use Rattle.lr_limits.specs.Limits.{member_limit}
use Rattle.lr_names.specs.Owner.{ThreadOfClient, same_owner}
use Rattle.lr_names.specs.declared.post.Post.{Post}
use Rattle.lr_keys.specs.KeySpace.{Keys}
use Rattle.lr_objects.specs.declared.reply.Reply.{Reply}
use Rattle.lr_objects.specs.declared.reply.Reply.TheVariants.{Busy, TooMany}
use Rattle.lr_model.specs.Fair.{FairLock, FairPlace, fair_post, first_post, is_first, is_place_of, place_of, place_wait, take_turn, wait_for, wait_with, with_last_place, with_later_place, with_queue}
use Rattle.lr_model.specs.Hold.{take_hold}
use Rattle.lr_model.specs.Outcome.{Outcome}
use Rattle.lr_model.proofs.ReadWriteFacts.{none_some, same_owner-Decides, some_one}
use Rattle.lr_fair.specs.Queue.{first_owner}
use Rattle.lr_fair.specs.Step.{IsFairStep, IsLockAt}
use Rattle.lr_fair.proofs.QueueLaws.{stale_in}

module _ (hold queue stales : List ℕ) (moment : ℕ) (owner : ThreadOfClient) (wait : ℕ)
    (lock : FairLock) where
  abbrev IsWait : Keys → Reply → Bool → Type 0
  IsWait new reply queues =
      IsFairStep new hold queue stales (reply, None)
      (wait_for moment owner wait queues lock.held lock.queue)

  -- without a place
  pub wait-aside : (keys : Keys) → IsLockAt keys hold queue stales lock → (queues : Bool)
      → queues ≡ false → IsWait keys (Busy wait) queues
  wait-aside keys at queues none =
      subst (IsWait keys (Busy wait)) (sym none)
      (record { reply = refl; post = refl; lock = at })

  -- the place that an owner has
  pub own-place : (stale : ℕ) → option_map stale_in (place_of owner lock.queue) ≡ Some stale
      → (place : FairPlace) × (place_of owner lock.queue ≡ Some place) × (place.stale ≡ stale)
  own-place stale found = by (place_of owner lock.queue) refl found
    where
      by : (own : Option FairPlace) → place_of owner lock.queue ≡ own
          → option_map stale_in own ≡ Some stale
          → (place : FairPlace) × (place_of owner lock.queue ≡ Some place) × (place.stale ≡ stale)
      by None is found = absurd (none_some stale (sym found))
      by (Some place) is found = (place, is, some_one place.stale stale found)

  pub no-place : option_map stale_in (place_of owner lock.queue) ≡ None
      → place_of owner lock.queue ≡ None
  no-place none = by (place_of owner lock.queue) none
    where
      by : (own : Option FairPlace) → option_map stale_in own ≡ None → own ≡ None
      by None none = refl
      by (Some place) none = absurd (none_some place.stale none)

  module _ (queues : Bool) (asks : queues ≡ true) (new : Keys) where
    -- by the place that an owner has or hasn't
    asked : (reply : Reply) (own : Option FairPlace) → place_of owner lock.queue ≡ own
        → IsFairStep new hold queue stales (reply, None)
        (wait_with moment owner wait lock.held lock.queue own)
        → IsWait new reply queues
    asked reply own is step =
        subst (IsWait new reply) (sym asks)
        (subst (λ o. IsFairStep new hold queue stales (reply, None)
        (wait_with moment owner wait lock.held lock.queue o)) (sym is) step)

    pub wait-kept : (place : FairPlace) → place_of owner lock.queue ≡ Some place
        → IsLockAt new hold queue stales (record {
          held = lock.held;
          queue = with_later_place owner (moment + wait + place_wait) lock.queue;
        })
        → IsWait new (Busy wait) queues
    wait-kept place found at =
        asked (Busy wait) (Some place) found (record { reply = refl; post = refl; lock = at })

    pub wait-full : place_of owner lock.queue ≡ None → member_limit ≤ length lock.queue
        → IsLockAt new hold queue stales lock → IsWait new TooMany queues
    wait-full none full at =
        let no_room : nat_lt (length lock.queue) member_limit ≡ false =
        grind (arith, full, nat_tests) in
        asked TooMany None none
        (subst (IsFairStep new hold queue stales (TooMany, None))
        (sym (cond-false (nat_lt (length lock.queue) member_limit) _ _ no_room))
        (record { reply = refl; post = refl; lock = at }))

    pub wait-added : place_of owner lock.queue ≡ None → length lock.queue < member_limit
        → IsLockAt new hold queue stales (record {
          held = lock.held;
          queue = with_last_place owner (moment + wait + place_wait) lock.queue;
        })
        → IsWait new (Busy wait) queues
    wait-added none room at =
        let some_room : nat_lt (length lock.queue) member_limit ≡ true =
        grind (arith, room, nat_tests) in
        asked (Busy wait) None none
        (subst (IsFairStep new hold queue stales (Busy wait, None))
        (sym (cond-true (nat_lt (length lock.queue) member_limit) _ _ some_room))
        (record { reply = refl; post = refl; lock = at }))

-- ---- the first place

pub record HasFirst (queue : List FairPlace) (first : ThreadOfClient) : Type 0 where
  pub place : FairPlace
  pub rest : List FairPlace
  pub is : queue ≡ place ∷ rest
  pub owner_is : first ≡ place.owner

pub has-first : (queue : List FairPlace) (first : ThreadOfClient)
    → first_owner queue ≡ Some first → HasFirst queue first
has-first [] first found = absurd (none_some first (sym found))
has-first (x ∷ xs) first found = record {
  place = x;
  rest = xs;
  is = refl;
  owner_is = sym (some_one x.owner first found);
}

pub none-first : (queue : List FairPlace) → first_owner queue ≡ None → queue ≡ []
none-first [] none = refl
none-first (x ∷ xs) none = absurd (none_some x.owner none)

module _ (new : Keys) (hold queue stales : List ℕ) (answer : Reply × Option Post) (moment : ℕ)
    (owner : ThreadOfClient) (lease : ℕ) (queues : Bool) where
  abbrev IsStep : Outcome FairLock → Type 0
  IsStep outcome = IsFairStep new hold queue stales answer outcome

  abbrev IsTurn : List FairPlace → Type 0
  IsTurn places = IsStep (take_turn moment owner lease queues places)

  pub turn-free : (places : List FairPlace) → places ≡ []
      → IsStep (with_queue [] (take_hold moment owner lease None)) → IsTurn places
  turn-free places none step = subst IsTurn (sym none) step

  module _ (places : List FairPlace) (place : FairPlace) (rest : List FairPlace)
      (is : places ≡ place ∷ rest) where
    pub turn-first : is_place_of owner place ≡ true
        → IsStep (with_queue rest (take_hold moment owner lease None)) → IsTurn places
    turn-first own step =
        subst IsTurn (sym is) (subst IsStep (sym (cond-true (is_place_of owner place) _ _ own)) step)

    pub turn-behind : is_place_of owner place ≡ false
        → IsStep (wait_for moment owner (min place_wait (place.stale - moment)) queues None
        (place ∷ rest))
        → IsTurn places
    turn-behind other step =
        subst IsTurn (sym is)
        (subst IsStep (sym (cond-false (is_place_of owner place) _ _ other)) step)

-- whether it is the owner's turn
pub first-is : (owner : ThreadOfClient) (queue : List FairPlace) (first : ThreadOfClient)
    → first_owner queue ≡ Some first → (result : Bool) → result ≡ same_owner first owner
    → result ≡ is_first owner queue
first-is owner queue first found result is = by queue (has-first queue first found)
  where
    by : (places : List FairPlace) → HasFirst places first → result ≡ is_first owner places
    by places has =
        is ∙ ap (λ o. same_owner o owner) has.owner_is
        ∙ ap (is_first owner) (sym has.is)

pub none-is : (owner : ThreadOfClient) (queue : List FairPlace) → first_owner queue ≡ None
    → true ≡ is_first owner queue
none-is owner queue none = ap (is_first owner) (sym (none-first queue none))

-- the stale moment of the first place
pub first-stale_of : (place : FairPlace) (rest : List FairPlace) (first : ThreadOfClient)
    → first ≡ place.owner → option_map stale_in (place_of first (place ∷ rest)) ≡ Some place.stale
first-stale_of place rest first is =
    ap (option_map stale_in)
    (cond-true (is_place_of first place) (Some place) (place_of first rest)
    ((same_owner-Decides place.owner first).1 (sym is)))

-- who is told
pub none-post : (name : List ℕ) (queue : List FairPlace) → first_owner queue ≡ None
    → None ≡ first_post name queue
none-post name queue none = ap (first_post name) (sym (none-first queue none))

pub some-post : (name : List ℕ) (queue : List FairPlace) (first : ThreadOfClient)
    → first_owner queue ≡ Some first → Some (fair_post name first) ≡ first_post name queue
some-post name queue first found =
    let has = has-first queue first found in
    ap (λ o. Some (fair_post name o)) has.owner_is ∙ ap (first_post name) (sym has.is)
