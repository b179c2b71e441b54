-- The fair lock, after that of the Redisson guide: the hold of one owner, and a queue of those who
-- asked for it, in which each has a place. A place goes stale, so that one whose client died doesn't
-- hold up the queue for ever. When it does, and how long the next one waits for that, is this
-- project's own. The functions see the lock as it stands, with a hold that may have expired and
-- places that may be stale.
use Rattle.std.specs.Prelude.{ℕ, ◌+◌, ◌-◌, min, max, nat_lt, Bool, true, false, not, List, [], ◌∷◌, ◌++◌, length, filter, find, Option, Some, None, if◌then◌else◌}
use Rattle.lr_limits.specs.Limits.{member_limit}
use Rattle.lr_names.specs.Owner.{ThreadOfClient, same_owner}
use Rattle.lr_names.specs.Post.{post_to}
use Rattle.lr_names.specs.declared.kind.Kind.TheVariants as kinds
use Rattle.lr_names.specs.declared.post.Post.{Post}
use Rattle.lr_objects.specs.declared.fair.FairCall.{FairCall}
use Rattle.lr_objects.specs.declared.fair.FairCall.TheVariants.{Try, Unlock, Leave, Renew}
use Rattle.lr_objects.specs.declared.reply.Reply.{Reply}
use Rattle.lr_objects.specs.declared.reply.Reply.TheVariants as replies
use Rattle.lr_model.specs.declared.hold.Hold.{Hold}
use Rattle.lr_model.specs.Claim.{Concern, NoHold, OwnHold, Exclusive}
use Rattle.lr_model.specs.Hold.{live_hold, take_hold, give_back_hold, renew_hold}
use Rattle.lr_model.specs.Moment.{is_live}
use Rattle.lr_model.specs.Outcome.{Outcome, silent_outcome, with_lease}

-- a place in the queue: whose it is, and the moment from which on it is stale
pub record FairPlace : Type 0 where
  pub owner : ThreadOfClient
  pub stale : ℕ

-- what is held, and the places in the order in which they were taken: an owner has one at most
pub record FairLock : Type 0 where
  pub held : Option Hold
  pub queue : List FairPlace

-- a lock that nobody has asked for
abbrev pub new_fair_lock : FairLock
new_fair_lock = record { held = None; queue = [] }

-- How long the next in the queue waits at most for the first, in milliseconds, and how long a place
-- lasts after its owner was to ask again.
abbrev pub place_wait : ℕ
place_wait = 5000

-- whether a place is this owner's
abbrev pub is_place_of : ThreadOfClient → FairPlace → Bool
is_place_of owner place = same_owner place.owner owner

-- the owner's place
abbrev pub place_of : ThreadOfClient → List FairPlace → Option FairPlace
place_of owner queue = find (is_place_of owner) queue

-- the places that aren't stale
abbrev pub live_places : ℕ → List FairPlace → List FairPlace
live_places moment queue = filter (λ place. is_live place.stale moment) queue

-- the queue without the owner's place
abbrev pub without_place : ThreadOfClient → List FairPlace → List FairPlace
without_place owner queue = filter (λ place. not (is_place_of owner place)) queue

-- the queue with a later stale moment of the owner's place
abbrev pub with_later_place : ThreadOfClient → ℕ → List FairPlace → List FairPlace
with_later_place owner stale [] = []
with_later_place owner stale (place ∷ rest) =
    if is_place_of owner place
    then record { owner = place.owner; stale = max place.stale stale } ∷ rest
    else place ∷ with_later_place owner stale rest

-- the queue with a new place at its end
abbrev pub with_last_place : ThreadOfClient → ℕ → List FairPlace → List FairPlace
with_last_place owner stale queue = queue ++ record { owner = owner; stale = stale } ∷ []

-- the message that the lock has come free, to one owner in the queue
abbrev pub fair_post : List ℕ → ThreadOfClient → Post
fair_post name owner =
    post_to (record { kind = kinds.Fair; name = name; owner = Some owner })

-- the message to the first in the queue, if there is one
abbrev pub first_post : List ℕ → List FairPlace → Option Post
first_post name [] = None
first_post name (place ∷ rest) = Some (fair_post name place.owner)

-- whether an owner's turn has come: nobody is in the queue, or the owner is the first
abbrev pub is_first : ThreadOfClient → List FairPlace → Bool
is_first owner [] = true
is_first owner (place ∷ rest) = is_place_of owner place

-- what a step on the hold makes of a lock with this queue
abbrev pub with_queue : List FairPlace → Outcome (Option Hold) → Outcome FairLock
with_queue queue outcome = record {
  reply = outcome.reply;
  object = record { held = outcome.object; queue = queue };
  post = outcome.post;
}

-- The steps of the functions, on a hold that is live and places of which none is stale.

-- Waiting in the queue: an owner without a place gets the last one, of 65,536 at most. One that has a
-- place keeps it, for as long as it had it at least.
abbrev pub wait_with : ℕ → ThreadOfClient → ℕ → Option Hold → List FairPlace → Option FairPlace
    → Outcome FairLock
wait_with moment owner wait held queue None =
    if nat_lt (length queue) member_limit
    then silent_outcome (replies.Busy wait) (record {
      held = held;
      queue = with_last_place owner (moment + wait + place_wait) queue;
    })
    else silent_outcome replies.TooMany (record { held = held; queue = queue })
wait_with moment owner wait held queue (Some own) =
    silent_outcome (replies.Busy wait) (record {
      held = held;
      queue = with_later_place owner (moment + wait + place_wait) queue;
    })

-- What is answered where the lock can't be had: how long to wait. Whoever asks for a place gets one.
abbrev pub wait_for : ℕ → ThreadOfClient → ℕ → Bool → Option Hold → List FairPlace
    → Outcome FairLock
wait_for moment owner wait true held queue =
    wait_with moment owner wait held queue (place_of owner queue)
wait_for moment owner wait false held queue =
    silent_outcome (replies.Busy wait) (record { held = held; queue = queue })

-- Taking what nobody holds, by who is first in the queue: it is granted to the first, whose place
-- goes, and to anyone where nobody is in the queue. Another waits until the first place goes stale,
-- or for five seconds, whichever is sooner.
abbrev pub take_turn : ℕ → ThreadOfClient → ℕ → Bool → List FairPlace → Outcome FairLock
take_turn moment owner lease queues [] = with_queue [] (take_hold moment owner lease None)
take_turn moment owner lease queues (place ∷ rest) =
    if is_place_of owner place then with_queue rest (take_hold moment owner lease None)
    else wait_for moment owner (min place_wait (place.stale - moment)) queues None (place ∷ rest)

-- Taking, by the hold: the owner takes it once more, and another waits for as long as it lasts.
abbrev pub take_fair : ℕ → ThreadOfClient → ℕ → Bool → List FairPlace → Option Hold
    → Outcome FairLock
take_fair moment owner lease queues queue None = take_turn moment owner lease queues queue
take_fair moment owner lease queues queue (Some hold) =
    if same_owner hold.owner owner
    then with_queue queue (take_hold moment owner lease (Some hold))
    else wait_for moment owner (hold.deadline - moment) queues (Some hold) queue

-- Where the first in the queue gives its place up and nobody holds the lock, the next one is told.
abbrev pub post_at_leave : List ℕ → ThreadOfClient → Option Hold → List FairPlace → Option Post
post_at_leave name owner None queue =
    if is_first owner queue then first_post name (without_place owner queue) else None
post_at_leave name owner (Some hold) queue = None

-- Giving one's place up, by that place.
abbrev pub leave_with : List ℕ → ThreadOfClient → Option Hold → List FairPlace → Option FairPlace
    → Outcome FairLock
leave_with name owner held queue None =
    silent_outcome replies.Unknown (record { held = held; queue = queue })
leave_with name owner held queue (Some own) = record {
  reply = replies.Left;
  object = record { held = held; queue = without_place owner queue };
  post = post_at_leave name owner held queue;
}

-- the functions
abbrev pub fair_try : ℕ → ThreadOfClient → ℕ → Bool → FairLock → Outcome FairLock
fair_try moment owner lease queues lock =
    with_lease lease lock
    (take_fair moment owner lease queues (live_places moment lock.queue)
    (live_hold moment lock.held))

abbrev pub fair_unlock : List ℕ → ℕ → ThreadOfClient → ℕ → FairLock → Outcome FairLock
fair_unlock name moment owner rest lock =
    let queue = live_places moment lock.queue in
    with_lease rest lock
    (with_queue queue
    (give_back_hold (first_post name queue) moment owner rest (live_hold moment lock.held)))

abbrev pub fair_leave : List ℕ → ℕ → ThreadOfClient → FairLock → Outcome FairLock
fair_leave name moment owner lock =
    let queue = live_places moment lock.queue in
    leave_with name owner (live_hold moment lock.held) queue (place_of owner queue)

-- a renewal leaves the queue as it is
abbrev pub fair_renew : ℕ → ThreadOfClient → ℕ → FairLock → Outcome FairLock
fair_renew moment owner lease lock =
    with_lease lease lock
    (with_queue lock.queue (renew_hold moment owner lease (live_hold moment lock.held)))

-- what a call makes of the lock of this name
abbrev pub fair_call : List ℕ → ℕ → FairCall → FairLock → Outcome FairLock
fair_call name moment (Try owner lease queues) = fair_try moment owner lease queues
fair_call name moment (Unlock owner rest) = fair_unlock name moment owner rest
fair_call name moment (Leave owner) = fair_leave name moment owner
fair_call name moment (Renew owner lease) = fair_renew moment owner lease

-- owners hold it alone
abbrev pub fair_concern : FairCall → Concern
fair_concern (Try owner lease queues) = OwnHold Exclusive owner lease
fair_concern (Unlock owner rest) = OwnHold Exclusive owner rest
fair_concern (Leave owner) = NoHold
fair_concern (Renew owner lease) = OwnHold Exclusive owner lease
