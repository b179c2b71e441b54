-- What the calls on a lock, a fenced lock or a fair lock leave of its hold.
use Rattle.std.proofs.Common.{◌≡◌, ℕ, ◌+◌, ◌-◌, ◌==◌, min, nat_lt, List, [], ◌∷◌, length, Bool, true, false, Option, Some, None, refl, ◌∙◌}
use Rattle.std.proofs.lemmas.Bool.{cond_both}
use Rattle.lr_limits.specs.Limits.{member_limit, token_limit}
use Rattle.lr_names.specs.Owner.{ThreadOfClient, same_owner}
use Rattle.lr_objects.specs.declared.fair.FairCall.{FairCall}
use Rattle.lr_objects.specs.declared.fair.FairCall.TheVariants as fair
use Rattle.lr_objects.specs.declared.fenced.FencedCall.{FencedCall}
use Rattle.lr_objects.specs.declared.fenced.FencedCall.TheVariants as fenced
use Rattle.lr_objects.specs.declared.lock.LockCall.{LockCall}
use Rattle.lr_objects.specs.declared.lock.LockCall.TheVariants as lock
use Rattle.lr_objects.specs.declared.reply.Reply.{Reply}
use Rattle.lr_objects.specs.declared.reply.Reply.TheVariants.{Granted, Busy, Left, TooMany, TokensSpent, Unknown, Count}
use Rattle.lr_model.specs.declared.hold.Hold.{Hold}
use Rattle.lr_model.specs.Fair.{FairLock, FairPlace, is_place_of, place_of, live_places, with_queue, place_wait, wait_with, wait_for, take_turn, take_fair, leave_with, first_post, fair_call, fair_concern}
use Rattle.lr_model.specs.Fenced.{FencedLock, fenced_post, reply_with_token, with_token, take_fenced, fenced_call, fenced_concern}
use Rattle.lr_model.specs.Hold.{live_hold, take_hold, give_back_hold, renew_hold, end_hold}
use Rattle.lr_model.specs.Mutex.{lock_post, lock_call, lock_concern}
use Rattle.lr_model.specs.Outcome.{Outcome, silent_outcome}
use Rattle.lr_model.specs.Tenure.{lease_in}
use Rattle.lr_waiting.specs.Peak.{gives_deadline}
use Rattle.lr_machine_renewals.proofs.OwnUntil.{Leaves, Stays, Ends, Given, LeavesHold, Keeps, same-keeps, live-keeps, leased-keeps, take_hold-leaves, give_back_hold-leaves, renew_hold-leaves, end_hold-leaves}

-- ---- the calls on a lock

-- whose hold a call is about
abbrev pub lock_caller : LockCall → Option ThreadOfClient
lock_caller (lock.Try owner lease) = Some owner
lock_caller (lock.Unlock owner rest) = Some owner
lock_caller (lock.Renew owner lease) = Some owner
lock_caller lock.Force = None

pub lock-keeps : (moment : ℕ) (owner : ThreadOfClient) (name : List ℕ) (call : LockCall)
    (held : Option Hold)
    → Keeps moment (lease_in (lock_concern call)) (lock_caller call) owner (λ h. h) held
    (lock_call name moment call held)
lock-keeps moment owner name (lock.Try who lease) held =
    leased-keeps moment lease (Some who) owner (λ h. h) held lease
    (take_hold moment who lease (live_hold moment held))
    (take_hold-leaves moment lease who (live_hold moment held))
lock-keeps moment owner name (lock.Unlock who rest) held =
    leased-keeps moment rest (Some who) owner (λ h. h) held rest
    (give_back_hold (Some (lock_post name)) moment who rest (live_hold moment held))
    (give_back_hold-leaves moment rest who (Some (lock_post name)) (live_hold moment held))
lock-keeps moment owner name (lock.Renew who lease) held =
    leased-keeps moment lease (Some who) owner (λ h. h) held lease
    (renew_hold moment who lease (live_hold moment held))
    (renew_hold-leaves moment lease who (live_hold moment held))
lock-keeps moment owner name lock.Force held =
    live-keeps moment 0 None owner (λ h. h) held
    (end_hold (Some (lock_post name)) (live_hold moment held))
    (end_hold-leaves moment (Some (lock_post name)) (live_hold moment held))

-- ---- the calls on a fenced lock

-- a token in a reply changes nothing of the deadline
token-gives : (token : ℕ) (reply : Reply)
    → gives_deadline (reply_with_token token reply) ≡ gives_deadline reply
token-gives token Granted = refl
token-gives token _ = refl

with_token-leaves : (moment lease token : ℕ) (caller : Option ThreadOfClient)
    (held : Option Hold) (reply : Reply) (new : Option Hold)
    → Leaves moment lease caller held reply new
    → Leaves moment lease caller held (reply_with_token token reply) new
with_token-leaves moment lease token caller held reply new (Stays _ none) =
    Stays (reply_with_token token reply) (token-gives token reply ∙ none)
with_token-leaves moment lease token caller held reply new (Ends _ none) =
    Ends (reply_with_token token reply) (token-gives token reply ∙ none)
with_token-leaves moment lease token caller held reply new (Given _ gives owner is count) =
    Given (reply_with_token token reply) (token-gives token reply ∙ gives) owner is count

abbrev LeavesFenced : ℕ → ℕ → ThreadOfClient → Option Hold → Outcome FencedLock → Type 0
LeavesFenced moment lease owner held outcome =
    Leaves moment lease (Some owner) held outcome.reply outcome.object.held

token-leaves : (moment lease token : ℕ) (owner : ThreadOfClient) (held : Option Hold)
    (outcome : Outcome (Option Hold)) → LeavesHold moment lease (Some owner) held outcome
    → LeavesFenced moment lease owner held (with_token token outcome)
token-leaves moment lease token owner held outcome =
    with_token-leaves moment lease token (Some owner) held outcome.reply outcome.object

take_fenced-leaves : (moment lease token : ℕ) (owner : ThreadOfClient) (held : Option Hold)
    → LeavesFenced moment lease owner held (take_fenced moment owner lease token held)
take_fenced-leaves moment lease token owner None =
    cond_both (token == token_limit)
    (silent_outcome TokensSpent (record { held = None; token = token }))
    (with_token (token + 1) (take_hold moment owner lease None))
    (LeavesFenced moment lease owner None) (λ spent. Stays TokensSpent refl)
    (λ more. token-leaves moment lease (token + 1) owner None
    (take_hold moment owner lease None) (take_hold-leaves moment lease owner None))
take_fenced-leaves moment lease token owner (Some hold) =
    token-leaves moment lease token owner (Some hold) (take_hold moment owner lease (Some hold))
    (take_hold-leaves moment lease owner (Some hold))

abbrev pub fenced_caller : FencedCall → Option ThreadOfClient
fenced_caller (fenced.Try owner lease) = Some owner
fenced_caller (fenced.Unlock owner rest) = Some owner
fenced_caller (fenced.Renew owner lease) = Some owner
fenced_caller fenced.Token = None

abbrev pub fenced_held : FencedLock → Option Hold
fenced_held lock = lock.held

pub fenced-keeps : (moment : ℕ) (owner : ThreadOfClient) (name : List ℕ) (call : FencedCall)
    (lock : FencedLock)
    → Keeps moment (lease_in (fenced_concern call)) (fenced_caller call) owner fenced_held lock
    (fenced_call name moment call lock)
fenced-keeps moment owner name (fenced.Try who lease) lock =
    leased-keeps moment lease (Some who) owner fenced_held lock lease
    (take_fenced moment who lease lock.token (live_hold moment lock.held))
    (take_fenced-leaves moment lease lock.token who (live_hold moment lock.held))
fenced-keeps moment owner name (fenced.Unlock who rest) lock =
    let live = live_hold moment lock.held in
    let given = give_back_hold (Some (fenced_post name)) moment who rest live in
    leased-keeps moment rest (Some who) owner fenced_held lock rest
    (with_token lock.token given)
    (token-leaves moment rest lock.token who live given
    (give_back_hold-leaves moment rest who (Some (fenced_post name)) live))
fenced-keeps moment owner name (fenced.Renew who lease) lock =
    let live = live_hold moment lock.held in
    let renewed = renew_hold moment who lease live in
    leased-keeps moment lease (Some who) owner fenced_held lock lease
    (with_token lock.token renewed)
    (token-leaves moment lease lock.token who live renewed
    (renew_hold-leaves moment lease who live))
fenced-keeps moment owner name fenced.Token lock =
    same-keeps moment 0 None owner fenced_held lock (Count lock.token) refl

-- ---- the calls on a fair lock

abbrev LeavesFair : ℕ → ℕ → ThreadOfClient → Option Hold → Outcome FairLock → Type 0
LeavesFair moment lease owner held outcome =
    Leaves moment lease (Some owner) held outcome.reply outcome.object.held

module _ (moment lease : ℕ) (owner : ThreadOfClient) (held : Option Hold) where
  wait_with-leaves : (wait : ℕ) (queue : List FairPlace) (own : Option FairPlace)
      → LeavesFair moment lease owner held (wait_with moment owner wait held queue own)
  wait_with-leaves wait queue None =
      cond_both (nat_lt (length queue) member_limit) _ _ (LeavesFair moment lease owner held)
      (λ room. Stays (Busy wait) refl) (λ full. Stays TooMany refl)
  wait_with-leaves wait queue (Some own) = Stays (Busy wait) refl

  wait_for-leaves : (wait : ℕ) (queues : Bool) (queue : List FairPlace)
      → LeavesFair moment lease owner held (wait_for moment owner wait queues held queue)
  wait_for-leaves wait true queue = wait_with-leaves wait queue (place_of owner queue)
  wait_for-leaves wait false queue = Stays (Busy wait) refl

module _ (moment lease : ℕ) (owner : ThreadOfClient) (queues : Bool) where
  take_turn-leaves : (queue : List FairPlace)
      → LeavesFair moment lease owner None (take_turn moment owner lease queues queue)
  take_turn-leaves [] = take_hold-leaves moment lease owner None
  take_turn-leaves (place ∷ rest) =
      cond_both (is_place_of owner place) _ _ (LeavesFair moment lease owner None)
      (λ first. take_hold-leaves moment lease owner None)
      (λ behind. wait_for-leaves moment lease owner None
      (min place_wait (place.stale - moment)) queues (place ∷ rest))

  take_fair-leaves : (queue : List FairPlace) (held : Option Hold)
      → LeavesFair moment lease owner held (take_fair moment owner lease queues queue held)
  take_fair-leaves queue None = take_turn-leaves queue
  take_fair-leaves queue (Some hold) =
      cond_both (same_owner hold.owner owner) _ _ (LeavesFair moment lease owner (Some hold))
      (λ own. take_hold-leaves moment lease owner (Some hold))
      (λ other. wait_for-leaves moment lease owner (Some hold) (hold.deadline - moment) queues
      queue)

leave_with-leaves : (moment : ℕ) (name : List ℕ) (owner : ThreadOfClient) (held : Option Hold)
    (queue : List FairPlace) (own : Option FairPlace)
    → Leaves moment 0 None held (leave_with name owner held queue own).reply
    (leave_with name owner held queue own).object.held
leave_with-leaves moment name owner held queue None = Stays Unknown refl
leave_with-leaves moment name owner held queue (Some own) = Stays Left refl

abbrev pub fair_caller : FairCall → Option ThreadOfClient
fair_caller (fair.Try owner lease queue) = Some owner
fair_caller (fair.Unlock owner rest) = Some owner
fair_caller (fair.Renew owner lease) = Some owner
fair_caller (fair.Leave owner) = None

abbrev pub fair_held : FairLock → Option Hold
fair_held lock = lock.held

pub fair-keeps : (moment : ℕ) (owner : ThreadOfClient) (name : List ℕ) (call : FairCall)
    (lock : FairLock)
    → Keeps moment (lease_in (fair_concern call)) (fair_caller call) owner fair_held lock
    (fair_call name moment call lock)
fair-keeps moment owner name (fair.Try who lease queues) lock =
    let live = live_hold moment lock.held in
    let queue = live_places moment lock.queue in
    leased-keeps moment lease (Some who) owner fair_held lock lease
    (take_fair moment who lease queues queue live)
    (take_fair-leaves moment lease who queues queue live)
fair-keeps moment owner name (fair.Unlock who rest) lock =
    let live = live_hold moment lock.held in
    let queue = live_places moment lock.queue in
    leased-keeps moment rest (Some who) owner fair_held lock rest
    (with_queue queue (give_back_hold (first_post name queue) moment who rest live))
    (give_back_hold-leaves moment rest who (first_post name queue) live)
fair-keeps moment owner name (fair.Renew who lease) lock =
    let live = live_hold moment lock.held in
    leased-keeps moment lease (Some who) owner fair_held lock lease
    (with_queue lock.queue (renew_hold moment who lease live))
    (renew_hold-leaves moment lease who live)
fair-keeps moment owner name (fair.Leave who) lock =
    let live = live_hold moment lock.held in
    let queue = live_places moment lock.queue in
    live-keeps moment 0 None owner fair_held lock
    (leave_with name who live queue (place_of who queue))
    (leave_with-leaves moment name who live queue (place_of who queue))
