-- Only the message of a fair lock names an owner: all who wait for another object share its
-- channel.
use Rattle.std.proofs.Common.{◌≡◌, ℕ, ◌+◌, ◌-◌, ◌==◌, nat_lt, nat_le, min, List, [], ◌∷◌, length, Bool, true, false, Option, Some, None, if◌then◌else◌, refl, ◌⊎◌, inl, inr}
use Rattle.lr_limits.specs.Limits.{hold_limit, token_limit, member_limit, amount_limit}
use Rattle.lr_names.specs.Channel.{is_fair}
use Rattle.lr_names.specs.Owner.{ThreadOfClient, same_owner}
use Rattle.lr_names.specs.declared.post.Post.{Post}
use Rattle.lr_objects.specs.declared.access.Access.{Access}
use Rattle.lr_objects.specs.declared.access.Access.TheVariants.{Read, Write}
use Rattle.lr_objects.specs.declared.op.Op.{Op}
use Rattle.lr_objects.specs.declared.kinds.Call.{Call}
use Rattle.lr_objects.specs.declared.kinds.Call.TheVariants as calls
use Rattle.lr_objects.specs.declared.lock.LockCall.{LockCall}
use Rattle.lr_objects.specs.declared.lock.LockCall.TheVariants as lock
use Rattle.lr_objects.specs.declared.fair.FairCall.{FairCall}
use Rattle.lr_objects.specs.declared.fair.FairCall.TheVariants as fair
use Rattle.lr_objects.specs.declared.fenced.FencedCall.{FencedCall}
use Rattle.lr_objects.specs.declared.fenced.FencedCall.TheVariants as fenced
use Rattle.lr_objects.specs.declared.read_write.ReadWriteCall.{ReadWriteCall}
use Rattle.lr_objects.specs.declared.read_write.ReadWriteCall.TheVariants as read_write
use Rattle.lr_objects.specs.declared.semaphore.SemaphoreCall.{SemaphoreCall}
use Rattle.lr_objects.specs.declared.semaphore.SemaphoreCall.TheVariants as semaphore
use Rattle.lr_objects.specs.declared.permits.PermitCall.{PermitCall}
use Rattle.lr_objects.specs.declared.permits.PermitCall.TheVariants as permit
use Rattle.lr_objects.specs.declared.countdown.CountdownCall.{CountdownCall}
use Rattle.lr_objects.specs.declared.countdown.CountdownCall.TheVariants as countdown
use Rattle.lr_objects.specs.declared.reply.Reply.TheVariants as replies
use Rattle.lr_model.specs.declared.hold.Hold.{Hold}
use Rattle.lr_model.specs.declared.read_write_hold.ReadWriteHold.{ReadWriteHold}
use Rattle.lr_model.specs.Answer.{Objects, answer_call, post_of}
use Rattle.lr_model.specs.Countdown.{latch_post, countdown_call}
use Rattle.lr_model.specs.Fair.{FairPlace, FairLock, is_place_of, place_of, place_wait, live_places, without_place, with_last_place, first_post, is_first, with_queue, wait_with, wait_for, take_turn, take_fair, post_at_leave, leave_with, fair_call}
use Rattle.lr_model.specs.Fenced.{FencedLock, fenced_post, with_token, take_fenced, fenced_call}
use Rattle.lr_model.specs.Hold.{live_hold, holding, freeing, take_hold, give_back_hold, renew_hold, end_hold}
use Rattle.lr_model.specs.Moment.{is_lease}
use Rattle.lr_model.specs.Mutex.{lock_post, lock_call}
use Rattle.lr_model.specs.Outcome.{Outcome, silent_outcome, with_lease}
use Rattle.lr_model.specs.Permits.{Permits, PermitLease, with_new_lease, lease_under, least_deadline, live_permits, set_number, take_permit, take_beside, take_of, give_back_lease, permit_call}
use Rattle.lr_model.specs.ReadWrite.{ReadWriteLock, hold_of, writer_beside, live_holds, without_hold, holding_so, first_hold, take_again, read_unhindered, read_beside, write_first, write_with, post_at_end, ended, give_back_with, renew_with, read_write_call}
use Rattle.lr_model.specs.Semaphore.{semaphore_post, free_permits, semaphore_call}

abbrev NamesNoOwner : Option Post → Type 0
NamesNoOwner None = Unit {0}
NamesNoOwner (Some post) = post.channel.owner ≡ None

-- a message names no owner, or is of a fair lock
abbrev pub NamesOwnerIfFair : Option Post → Type 0
NamesOwnerIfFair None = Unit {0}
NamesOwnerIfFair (Some post) =
    (post.channel.owner ≡ None) ⊎ (is_fair post.channel.kind ≡ true)

-- an outcome whose message doesn't
abbrev Tells : {X : Type 0} → Outcome X → Type 0
Tells outcome = NamesNoOwner outcome.post

leased : {X : Type 0} (lease : ℕ) (object : X) (outcome : Outcome X) → Tells outcome
    → Tells (with_lease lease object outcome)
leased lease object outcome tells = by (is_lease lease)
  where
    by : (is : Bool) → Tells (if is then outcome else silent_outcome replies.BadLease object)
    by true = tells
    by false = tt

-- Holds.

tells-take : (moment : ℕ) (owner : ThreadOfClient) (lease : ℕ) (held : Option Hold)
    → Tells (take_hold moment owner lease held)
tells-take moment owner lease None = tt
tells-take moment owner lease (Some hold) = by (same_owner hold.owner owner) (hold.count == hold_limit)
  where
    by : (own full : Bool)
        → Tells
        (if own
        then (if full then silent_outcome replies.TooDeep (Some hold)
        else holding replies.Granted owner (hold.count + 1) (moment + lease))
        else silent_outcome (replies.Busy (hold.deadline - moment)) (Some hold))
    by true true = tt
    by true false = tt
    by false full = tt

tells-give_back : (post : Option Post) → NamesNoOwner post → (moment : ℕ) (owner : ThreadOfClient)
    (rest : ℕ) (held : Option Hold) → Tells (give_back_hold post moment owner rest held)
tells-give_back post none moment owner rest None = tt
tells-give_back post none moment owner rest (Some hold) =
    by (same_owner hold.owner owner) (hold.count == 1)
  where
    by : (own last : Bool)
        → Tells
        (if own
        then (if last then freeing post
        else holding replies.Kept owner (hold.count - 1) (moment + rest))
        else silent_outcome replies.NotHeld (Some hold))
    by true true = none
    by true false = tt
    by false last = tt

tells-renew : (moment : ℕ) (owner : ThreadOfClient) (lease : ℕ) (held : Option Hold)
    → Tells (renew_hold moment owner lease held)
tells-renew moment owner lease None = tt
tells-renew moment owner lease (Some hold) = by (same_owner hold.owner owner)
  where
    by : (own : Bool)
        → Tells
        (if own then holding replies.Renewed owner hold.count (moment + lease)
        else silent_outcome replies.Lost (Some hold))
    by true = tt
    by false = tt

tells-end : (post : Option Post) → NamesNoOwner post → (held : Option Hold)
    → Tells (end_hold post held)
tells-end post none None = tt
tells-end post none (Some hold) = none

tells-lock : (name : List ℕ) (moment : ℕ) (call : LockCall) (held : Option Hold)
    → Tells (lock_call name moment call held)
tells-lock name moment (lock.Try owner lease) held =
    leased lease held (take_hold moment owner lease (live_hold moment held))
    (tells-take moment owner lease (live_hold moment held))
tells-lock name moment (lock.Unlock owner rest) held =
    leased rest held
    (give_back_hold (Some (lock_post name)) moment owner rest (live_hold moment held))
    (tells-give_back (Some (lock_post name)) refl moment owner rest (live_hold moment held))
tells-lock name moment (lock.Renew owner lease) held =
    leased lease held (renew_hold moment owner lease (live_hold moment held))
    (tells-renew moment owner lease (live_hold moment held))
tells-lock name moment lock.Force held =
    tells-end (Some (lock_post name)) refl (live_hold moment held)

tells-take_fenced : (moment : ℕ) (owner : ThreadOfClient) (lease token : ℕ) (held : Option Hold)
    → Tells (take_fenced moment owner lease token held)
tells-take_fenced moment owner lease token None = by (token == token_limit)
  where
    by : (spent : Bool)
        → Tells
        (if spent
        then silent_outcome replies.TokensSpent (record { held = None; token = token })
        else with_token (token + 1) (take_hold moment owner lease None))
    by true = tt
    by false = tt
tells-take_fenced moment owner lease token (Some hold) = tells-take moment owner lease (Some hold)

tells-fenced : (name : List ℕ) (moment : ℕ) (call : FencedCall) (held : FencedLock)
    → Tells (fenced_call name moment call held)
tells-fenced name moment (fenced.Try owner lease) held =
    leased lease held (take_fenced moment owner lease held.token (live_hold moment held.held))
    (tells-take_fenced moment owner lease held.token (live_hold moment held.held))
tells-fenced name moment (fenced.Unlock owner rest) held =
    leased rest held
    (with_token held.token
    (give_back_hold (Some (fenced_post name)) moment owner rest (live_hold moment held.held)))
    (tells-give_back (Some (fenced_post name)) refl moment owner rest
    (live_hold moment held.held))
tells-fenced name moment (fenced.Renew owner lease) held =
    leased lease held
    (with_token held.token (renew_hold moment owner lease (live_hold moment held.held)))
    (tells-renew moment owner lease (live_hold moment held.held))
tells-fenced name moment fenced.Token held = tt

-- Read-write locks.

tells-again : (deadline : ℕ) (held : ReadWriteLock) (own : ReadWriteHold)
    → Tells (take_again deadline held own)
tells-again deadline held own = by (own.count == hold_limit)
  where
    by : (full : Bool)
        → Tells
        (if full then silent_outcome replies.TooDeep held
        else holding_so replies.Granted
        (record own { count = own.count + 1; deadline = deadline }) held)
    by true = tt
    by false = tt

tells-unhindered : (owner : ThreadOfClient) (deadline : ℕ) (held : ReadWriteLock)
    (own : Option ReadWriteHold) → Tells (read_unhindered owner deadline held own)
tells-unhindered owner deadline held (Some own) = tells-again deadline held own
tells-unhindered owner deadline held None = by (nat_lt (length held) member_limit)
  where
    by : (room : Bool)
        → Tells
        (if room then holding_so replies.Granted (first_hold owner Read deadline) held
        else silent_outcome replies.TooMany held)
    by true = tt
    by false = tt

tells-read : (moment : ℕ) (owner : ThreadOfClient) (lease : ℕ) (held : ReadWriteLock)
    (writer : Option ReadWriteHold) → Tells (read_beside moment owner lease held writer)
tells-read moment owner lease held (Some writer) = tt
tells-read moment owner lease held None =
    tells-unhindered owner (moment + lease) held (hold_of owner Read held)

tells-write_first : (moment : ℕ) (owner : ThreadOfClient) (lease : ℕ) (held : ReadWriteLock)
    → Tells (write_first moment owner lease held)
tells-write_first moment owner lease [] = tt
tells-write_first moment owner lease (hold ∷ rest) = tt

tells-write : (moment : ℕ) (owner : ThreadOfClient) (lease : ℕ) (held : ReadWriteLock)
    (own : Option ReadWriteHold) → Tells (write_with moment owner lease held own)
tells-write moment owner lease held (Some own) = tells-again (moment + lease) held own
tells-write moment owner lease held None = tells-write_first moment owner lease held

tells-at_end : (name : List ℕ) (access : Access) (left : ReadWriteLock)
    → NamesNoOwner (post_at_end name access left)
tells-at_end name Write left = refl
tells-at_end name Read [] = refl
tells-at_end name Read (hold ∷ rest) = tt

tells-back_with : (name : List ℕ) (deadline : ℕ) (held : ReadWriteLock)
    (own : Option ReadWriteHold) → Tells (give_back_with name deadline held own)
tells-back_with name deadline held None = tt
tells-back_with name deadline held (Some own) = by (own.count == 1)
  where
    by : (last : Bool)
        → Tells
        (if last then ended name own.access (without_hold own.owner own.access held)
        else holding_so replies.Kept
        (record own { count = own.count - 1; deadline = deadline }) held)
    by true = tells-at_end name own.access (without_hold own.owner own.access held)
    by false = tt

tells-renew_with : (deadline : ℕ) (held : ReadWriteLock) (own : Option ReadWriteHold)
    → Tells (renew_with deadline held own)
tells-renew_with deadline held None = tt
tells-renew_with deadline held (Some own) = tt

tells-read_write : (name : List ℕ) (moment : ℕ) (call : ReadWriteCall) (held : ReadWriteLock)
    → Tells (read_write_call name moment call held)
tells-read_write name moment (read_write.Take Read owner lease) held =
    leased lease held
    (read_beside moment owner lease (live_holds moment held)
    (writer_beside owner (live_holds moment held)))
    (tells-read moment owner lease (live_holds moment held)
    (writer_beside owner (live_holds moment held)))
tells-read_write name moment (read_write.Take Write owner lease) held =
    leased lease held
    (write_with moment owner lease (live_holds moment held)
    (hold_of owner Write (live_holds moment held)))
    (tells-write moment owner lease (live_holds moment held)
    (hold_of owner Write (live_holds moment held)))
tells-read_write name moment (read_write.Unlock access owner rest) held =
    leased rest held
    (give_back_with name (moment + rest) (live_holds moment held)
    (hold_of owner access (live_holds moment held)))
    (tells-back_with name (moment + rest) (live_holds moment held)
    (hold_of owner access (live_holds moment held)))
tells-read_write name moment (read_write.Renew access owner lease) held =
    leased lease held
    (renew_with (moment + lease) (live_holds moment held)
    (hold_of owner access (live_holds moment held)))
    (tells-renew_with (moment + lease) (live_holds moment held)
    (hold_of owner access (live_holds moment held)))

-- Semaphores, expirable permits and latches.

tells-semaphore : (name : List ℕ) (call : SemaphoreCall) (free : Option ℕ)
    → Tells (semaphore_call name call free)
tells-semaphore name (semaphore.Set number) None = refl
tells-semaphore name (semaphore.Set number) (Some free) = tt
tells-semaphore name (semaphore.Try number) None = tt
tells-semaphore name (semaphore.Try number) (Some free) = by (nat_le number free)
  where
    by : (enough : Bool)
        → Tells
        (if enough then silent_outcome replies.Granted (Some (free - number))
        else silent_outcome replies.Short (Some free))
    by true = tt
    by false = tt
tells-semaphore name (semaphore.Release number) free =
    by (nat_le (free_permits free + number) amount_limit)
  where
    by : (fits : Bool)
        → NamesNoOwner
        (if fits
        then record {
          reply = replies.Count (free_permits free + number);
          object = Some (free_permits free + number);
          post = Some (semaphore_post name);
        }
        else silent_outcome replies.TooMany free).post
    by true = refl
    by false = tt
tells-semaphore name semaphore.Count free = tt

tells-take_permit : (moment : ℕ) (id : List ℕ) (lease : ℕ) (live : Permits) (number : ℕ)
    → Tells (take_permit moment id lease live number)
tells-take_permit moment id lease live number =
    by (nat_lt (length live.leases) number) (nat_lt (length live.leases) member_limit)
  where
    by : (free room : Bool)
        → Tells
        (if free
        then (if room then silent_outcome replies.Granted (with_new_lease id (moment + lease) live)
        else silent_outcome replies.TooMany live)
        else silent_outcome (replies.Busy (least_deadline live.leases - moment)) live)
    by true true = tt
    by true false = tt
    by false room = tt

tells-take_beside : (moment : ℕ) (id : List ℕ) (lease : ℕ) (live : Permits) (number : ℕ)
    (own : Option PermitLease) → Tells (take_beside moment id lease live number own)
tells-take_beside moment id lease live number (Some own) = tt
tells-take_beside moment id lease live number None = tells-take_permit moment id lease live number

tells-take_of : (moment : ℕ) (id : List ℕ) (lease : ℕ) (live : Permits) (number : Option ℕ)
    → Tells (take_of moment id lease live number)
tells-take_of moment id lease live None = tt
tells-take_of moment id lease live (Some number) =
    tells-take_beside moment id lease live number (lease_under id live.leases)

tells-set_number : (name : List ℕ) (number : ℕ) (live : Permits) (set : Option ℕ)
    → Tells (set_number name number live set)
tells-set_number name number live None = refl
tells-set_number name number live (Some set) = tt

tells-give_back_lease : (name id : List ℕ) (live : Permits) (own : Option PermitLease)
    → Tells (give_back_lease name id live own)
tells-give_back_lease name id live None = tt
tells-give_back_lease name id live (Some own) = refl

tells-permits : (name : List ℕ) (moment : ℕ) (call : PermitCall) (permits : Permits)
    → Tells (permit_call name moment call permits)
tells-permits name moment (permit.Set number) permits =
    tells-set_number name number (live_permits moment permits) permits.number
tells-permits name moment (permit.Try id lease) permits =
    leased lease permits
    (take_of moment id lease (live_permits moment permits) permits.number)
    (tells-take_of moment id lease (live_permits moment permits) permits.number)
tells-permits name moment (permit.Release id) permits =
    tells-give_back_lease name id (live_permits moment permits)
    (lease_under id (live_permits moment permits).leases)
tells-permits name moment permit.Count permits = tt

tells-countdown : (name : List ℕ) (call : CountdownCall) (count : ℕ)
    → Tells (countdown_call name call count)
tells-countdown name (countdown.Set number) count = by (count == 0)
  where
    by : (unset : Bool)
        → Tells
        (if unset then silent_outcome replies.Set number
        else silent_outcome replies.AlreadySet count)
    by true = tt
    by false = tt
tells-countdown name countdown.Down count = by (count == 1)
  where
    by : (last : Bool) → NamesNoOwner (if last then Some (latch_post name) else None)
    by true = refl
    by false = tt
tells-countdown name countdown.Count count = tt

-- Fair locks.

abbrev IsFairPost : Option Post → Type 0
IsFairPost None = Unit {0}
IsFairPost (Some post) = is_fair post.channel.kind ≡ true

first-fair : (name : List ℕ) (queue : List FairPlace) → IsFairPost (first_post name queue)
first-fair name [] = tt
first-fair name (place ∷ rest) = refl

module _ {X : Type 0} where
  leased-fair : (lease : ℕ) (object : X) (outcome : Outcome X) → IsFairPost outcome.post
      → IsFairPost (with_lease lease object outcome).post
  leased-fair lease object outcome tells = by (is_lease lease)
    where
      by : (is : Bool)
          → IsFairPost (if is then outcome else silent_outcome replies.BadLease object).post
      by true = tells
      by false = tt

wait-fair : (moment wait : ℕ) (owner : ThreadOfClient) (queues : Bool) (held : Option Hold)
    (queue : List FairPlace) → IsFairPost (wait_for moment owner wait queues held queue).post
wait-fair moment wait owner false held queue = tt
wait-fair moment wait owner true held queue = by (place_of owner queue)
  where
    by_room : (room : Bool)
        → IsFairPost
        (if room
        then silent_outcome {X = FairLock} (replies.Busy wait)
        (record {
          held = held;
          queue = with_last_place owner (moment + wait + place_wait) queue;
        })
        else silent_outcome {X = FairLock} replies.TooMany
        (record { held = held; queue = queue })).post
    by_room true = tt
    by_room false = tt

    by : (own : Option FairPlace) → IsFairPost (wait_with moment owner wait held queue own).post
    by None = by_room (nat_lt (length queue) member_limit)
    by (Some own) = tt

hold-fair : (moment lease : ℕ) (owner : ThreadOfClient) (held : Option Hold)
    → IsFairPost (take_hold moment owner lease held).post
hold-fair moment lease owner None = tt
hold-fair moment lease owner (Some hold) =
    by (same_owner hold.owner owner) (hold.count == hold_limit)
  where
    by : (own full : Bool)
        → IsFairPost
        (if own
        then (if full then silent_outcome replies.TooDeep (Some hold)
        else holding replies.Granted owner (hold.count + 1) (moment + lease))
        else silent_outcome (replies.Busy (hold.deadline - moment)) (Some hold)).post
    by true true = tt
    by true false = tt
    by false full = tt

turn-fair : (moment lease : ℕ) (owner : ThreadOfClient) (queues : Bool) (queue : List FairPlace)
    → IsFairPost (take_turn moment owner lease queues queue).post
turn-fair moment lease owner queues [] = tt
turn-fair moment lease owner queues (place ∷ rest) = by (is_place_of owner place)
  where
    by : (own : Bool)
        → IsFairPost
        (if own then with_queue rest (take_hold moment owner lease None)
        else wait_for moment owner (min place_wait (place.stale - moment)) queues None
        (place ∷ rest)).post
    by true = tt
    by false =
        wait-fair moment (min place_wait (place.stale - moment)) owner queues None (place ∷ rest)

take-fair : (moment lease : ℕ) (owner : ThreadOfClient) (queues : Bool) (queue : List FairPlace)
    (held : Option Hold) → IsFairPost (take_fair moment owner lease queues queue held).post
take-fair moment lease owner queues queue None = turn-fair moment lease owner queues queue
take-fair moment lease owner queues queue (Some hold) = by (same_owner hold.owner owner)
  where
    by : (own : Bool)
        → IsFairPost
        (if own then with_queue queue (take_hold moment owner lease (Some hold))
        else wait_for moment owner (hold.deadline - moment) queues (Some hold) queue).post
    by true = hold-fair moment lease owner (Some hold)
    by false = wait-fair moment (hold.deadline - moment) owner queues (Some hold) queue

back-fair : (post : Option Post) → IsFairPost post → (moment : ℕ) (owner : ThreadOfClient)
    (rest : ℕ) (held : Option Hold) → IsFairPost (give_back_hold post moment owner rest held).post
back-fair post fair moment owner rest None = tt
back-fair post fair moment owner rest (Some hold) =
    by (same_owner hold.owner owner) (hold.count == 1)
  where
    by : (own last : Bool)
        → IsFairPost
        (if own
        then (if last then freeing post
        else holding replies.Kept owner (hold.count - 1) (moment + rest))
        else silent_outcome replies.NotHeld (Some hold)).post
    by true true = fair
    by true false = tt
    by false last = tt

renew-fair : (moment : ℕ) (owner : ThreadOfClient) (lease : ℕ) (held : Option Hold)
    → IsFairPost (renew_hold moment owner lease held).post
renew-fair moment owner lease None = tt
renew-fair moment owner lease (Some hold) = by (same_owner hold.owner owner)
  where
    by : (own : Bool)
        → IsFairPost
        (if own then holding replies.Renewed owner hold.count (moment + lease)
        else silent_outcome replies.Lost (Some hold)).post
    by true = tt
    by false = tt

leave-fair : (name : List ℕ) (owner : ThreadOfClient) (held : Option Hold)
    (queue : List FairPlace) → IsFairPost (post_at_leave name owner held queue)
leave-fair name owner (Some hold) queue = tt
leave-fair name owner None queue = by (is_first owner queue)
  where
    by : (first : Bool)
        → IsFairPost (if first then first_post name (without_place owner queue) else None)
    by true = first-fair name (without_place owner queue)
    by false = tt

leave_with-fair : (name : List ℕ) (owner : ThreadOfClient) (held : Option Hold)
    (queue : List FairPlace) (own : Option FairPlace)
    → IsFairPost (leave_with name owner held queue own).post
leave_with-fair name owner held queue None = tt
leave_with-fair name owner held queue (Some own) = leave-fair name owner held queue

tells-fair : (name : List ℕ) (moment : ℕ) (call : FairCall) (lock : FairLock)
    → IsFairPost (fair_call name moment call lock).post
tells-fair name moment (fair.Try owner lease queues) lock =
    leased-fair lease lock
    (take_fair moment owner lease queues (live_places moment lock.queue)
    (live_hold moment lock.held))
    (take-fair moment lease owner queues (live_places moment lock.queue)
    (live_hold moment lock.held))
tells-fair name moment (fair.Unlock owner rest) lock =
    leased-fair rest lock
    (with_queue (live_places moment lock.queue)
    (give_back_hold (first_post name (live_places moment lock.queue)) moment owner rest
    (live_hold moment lock.held)))
    (back-fair (first_post name (live_places moment lock.queue))
    (first-fair name (live_places moment lock.queue)) moment owner rest
    (live_hold moment lock.held))
tells-fair name moment (fair.Leave owner) lock =
    leave_with-fair name owner (live_hold moment lock.held) (live_places moment lock.queue)
    (place_of owner (live_places moment lock.queue))
tells-fair name moment (fair.Renew owner lease) lock =
    leased-fair lease lock
    (with_queue lock.queue (renew_hold moment owner lease (live_hold moment lock.held)))
    (renew-fair moment owner lease (live_hold moment lock.held))

-- All calls.

nameless : (post : Option Post) → NamesNoOwner post → NamesOwnerIfFair post
nameless None none = tt
nameless (Some post) none = inl none

of_fair : (post : Option Post) → IsFairPost post → NamesOwnerIfFair post
of_fair None is = tt
of_fair (Some post) is = inr is

pub post-names_owner : (objects : Objects) (moment : ℕ) (op : Op)
    → NamesOwnerIfFair (post_of objects moment op)
post-names_owner objects moment op = by op.call
  where
    by : (call : Call) → NamesOwnerIfFair (answer_call objects moment op.name call).post
    by (calls.Lock call) =
        nameless _ (tells-lock op.name moment call (objects.mutexes op.name))
    by (calls.Fair call) =
        of_fair _ (tells-fair op.name moment call (objects.fair_locks op.name))
    by (calls.ReadWrite call) =
        nameless _ (tells-read_write op.name moment call (objects.read_write_locks op.name))
    by (calls.Fenced call) =
        nameless _ (tells-fenced op.name moment call (objects.fenced_locks op.name))
    by (calls.Semaphore call) =
        nameless _ (tells-semaphore op.name call (objects.semaphores op.name))
    by (calls.Permits call) =
        nameless _ (tells-permits op.name moment call (objects.permits op.name))
    by (calls.Countdown call) =
        nameless _ (tells-countdown op.name call (objects.countdowns op.name))
