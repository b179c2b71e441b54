-- A reply that refuses the call of a request for a fair lock leaves it a place in the queue.
use Rattle.std.proofs.Common.{◌≡◌, ℕ, ◌+◌, ◌-◌, ◌≤◌, ◌==◌, nat_lt, min, length, List, [], ◌∷◌, Bool, true, false, not, Option, Some, None, if◌then◌else◌, refl, sym, ap, ◌∙◌, subst, arith, ◌⊎◌, inl, inr}
use Rattle.std.specs.Option.{option_map}
use Rattle.std.proofs.lemmas.Bool.{and_from, false≢true}
use Rattle.lr_limits.specs.Limits.{hold_limit, member_limit}
use Rattle.lr_names.specs.Channel.{ChannelOf, is_fair}
use Rattle.lr_names.specs.Owner.{ThreadOfClient, same_owner}
use Rattle.lr_names.specs.declared.post.Post.{Post}
use Rattle.lr_objects.specs.Kinds.{call_of, call_kind}
use Rattle.lr_objects.specs.Op.{channel_of, call_on}
use Rattle.lr_objects.specs.Reply.{blocks}
use Rattle.lr_objects.specs.Want.{op_of}
use Rattle.lr_objects.specs.declared.fair.FairCall.{FairCall}
use Rattle.lr_objects.specs.declared.fair.FairCall.TheVariants.{Try, Leave}
use Rattle.lr_objects.specs.declared.fair.FairFunction.{FairFunction}
use Rattle.lr_objects.specs.declared.fair.FairFunction.TheVariants as fair
use Rattle.lr_objects.specs.declared.kinds.Call.{Call}
use Rattle.lr_objects.specs.declared.kinds.Call.TheVariants as calls
use Rattle.lr_objects.specs.declared.kinds.Function.{Function}
use Rattle.lr_objects.specs.declared.kinds.Function.TheVariants as functions
use Rattle.lr_objects.specs.declared.op.Op.{Op}
use Rattle.lr_objects.specs.declared.reply.Reply.{Reply}
use Rattle.lr_objects.specs.declared.reply.Reply.TheVariants as replies
use Rattle.lr_objects.specs.declared.want.Want.{Want}
use Rattle.lr_model.specs.declared.hold.Hold.{Hold}
use Rattle.lr_model.specs.Answer.{Objects, answer_call, reply_of, objects_after}
use Rattle.lr_model.specs.Board.{same_channel}
use Rattle.lr_model.specs.Fair.{FairPlace, FairLock, is_place_of, place_of, place_wait, live_places, with_queue, with_last_place, first_post, wait_with, wait_for, take_turn, take_fair, leave_with, fair_try, fair_unlock, fair_renew}
use Rattle.lr_model.specs.Hold.{live_hold, holding, freeing, take_hold, give_back_hold, renew_hold}
use Rattle.lr_model.specs.Moment.{is_lease}
use Rattle.lr_model.specs.Outcome.{Outcome, silent_outcome, with_lease}
use Rattle.lr_model.proofs.SameChannel.{same_self}
use Rattle.lr_laws.proofs.FairPlaces.{place_left-call}
use Rattle.lr_waiting.specs.declared.waiter.Asking.{Asking}
use Rattle.lr_waiting.specs.declared.waiter.Waiter.{Waiter}
use Rattle.lr_waiting.specs.Client.{Client, waiter_in, asked_by, asked_of}
use Rattle.lr_waiting.specs.Queue.{is_queue_try, renews_fair, is_own_call, is_own_try, stale_of, stale_on, place_by_call}
use Rattle.lr_waiting.specs.Session.{channel_for, owner_in, may_wait, leaving_function, leaving_want}
use Rattle.lr_waiting.specs.Stand.{due_by_reply}
use Rattle.lr_wakeups.specs.Joining.{is_queue_leave}
use Rattle.lr_wakeups.specs.Queued.{HasPlace, IsLeftQueued}
use Rattle.lr_wakeups.specs.Reached.{Present}
use Rattle.lr_wakeups.proofs.FairChannels.{names_owner}
use Rattle.lr_machine.specs.World.{World, state_of}
use Rattle.lr_machine_wakeups.specs.WorldFacts.{peak_of, left_of, told_of, IsAsked, IsMade, AskedWith}
use Rattle.lr_machine_wakeups.proofs.Answers.{asked-is}
use Rattle.lr_machine_wakeups.proofs.OwnCalls.{own_channel}

-- Before a call's own effects on objects and peaks are counted: only the place that it leaves its
-- owner is, and that its owner asked.
abbrev pub turn_of : World → Op → Present
turn_of world op = record {
  objects = (state_of world).objects;
  now = world.moment;
  peak = peak_of world;
  left = λ q. place_by_call q (state_of world) world.moment op (left_of world q);
  told = λ q. if is_own_try q op then false else told_of world q;
}

-- What refuses a request for a fair lock: a try that tells how long to wait.

module _ (f : FairFunction) where
  abbrev refuses : Reply → Bool
  refuses reply = blocks reply (functions.Fair f)

  -- a reply that refuses tells so
  abbrev Tells : Reply → Type 0
  Tells reply = refuses reply ≡ true → (millis : ℕ) × (reply ≡ replies.Busy millis)

  lets : (reply : Reply) → refuses reply ≡ false → Tells reply
  lets reply free refused = absurd (false≢true (sym free ∙ refused))

  tells-wait_with : (moment wait : ℕ) (owner : ThreadOfClient) (held : Option Hold)
      (queue : List FairPlace) (own : Option FairPlace)
      → Tells (wait_with moment owner wait held queue own).reply
  tells-wait_with moment wait owner held queue None = by (nat_lt (length queue) member_limit)
    where
      by : (room : Bool)
          → Tells
          (if room
          then silent_outcome {X = FairLock} (replies.Busy wait)
          (record {
            held = held;
            queue = with_last_place owner (moment + wait + place_wait) queue;
          })
          else silent_outcome {X = FairLock} replies.TooMany
          (record { held = held; queue = queue })).reply
      by true = λ refused. (wait, refl)
      by false = lets replies.TooMany refl
  tells-wait_with moment wait owner held queue (Some own) = λ refused. (wait, refl)

  tells-wait_for : (moment wait : ℕ) (owner : ThreadOfClient) (queues : Bool)
      (held : Option Hold) (queue : List FairPlace)
      → Tells (wait_for moment owner wait queues held queue).reply
  tells-wait_for moment wait owner true held queue =
      tells-wait_with moment wait owner held queue (place_of owner queue)
  tells-wait_for moment wait owner false held queue = λ refused. (wait, refl)

  tells-turn : (moment lease : ℕ) (owner : ThreadOfClient) (queues : Bool)
      (queue : List FairPlace) → Tells (take_turn moment owner lease queues queue).reply
  tells-turn moment lease owner queues [] = lets replies.Granted refl
  tells-turn moment lease owner queues (place ∷ rest) = by (is_place_of owner place)
    where
      by : (own : Bool)
          → Tells
          (if own then with_queue rest (take_hold moment owner lease None)
          else wait_for moment owner (min place_wait (place.stale - moment)) queues None
          (place ∷ rest)).reply
      by true = lets replies.Granted refl
      by false =
          tells-wait_for moment (min place_wait (place.stale - moment)) owner queues None
          (place ∷ rest)

  tells-hold : (moment lease : ℕ) (owner : ThreadOfClient) (hold : Hold)
      → Tells (take_hold moment owner lease (Some hold)).reply
  tells-hold moment lease owner hold = by (same_owner hold.owner owner) (hold.count == hold_limit)
    where
      by : (own full : Bool)
          → Tells
          (if own
          then (if full then silent_outcome replies.TooDeep (Some hold)
          else holding replies.Granted owner (hold.count + 1) (moment + lease))
          else silent_outcome (replies.Busy (hold.deadline - moment)) (Some hold)).reply
      by true true = lets replies.TooDeep refl
      by true false = lets replies.Granted refl
      by false full = λ refused. (hold.deadline - moment, refl)

  tells-take : (moment lease : ℕ) (owner : ThreadOfClient) (queues : Bool)
      (queue : List FairPlace) (held : Option Hold)
      → Tells (take_fair moment owner lease queues queue held).reply
  tells-take moment lease owner queues queue None = tells-turn moment lease owner queues queue
  tells-take moment lease owner queues queue (Some hold) = by (same_owner hold.owner owner)
    where
      by : (own : Bool)
          → Tells
          (if own then with_queue queue (take_hold moment owner lease (Some hold))
          else wait_for moment owner (hold.deadline - moment) queues (Some hold) queue).reply
      by true = tells-hold moment lease owner hold
      by false =
          tells-wait_for moment (hold.deadline - moment) owner queues (Some hold) queue

  -- a lease out of range isn't waited for
  leased : (P : Reply → Type 0) (lease : ℕ) (lock : FairLock) (outcome : Outcome FairLock)
      → P outcome.reply → P replies.BadLease → P (with_lease lease lock outcome).reply
  leased P lease lock outcome then_ bad = by (is_lease lease)
    where
      by : (is : Bool)
          → P (if is then outcome else silent_outcome replies.BadLease lock).reply
      by true = then_
      by false = bad

  tells-try : (moment lease : ℕ) (owner : ThreadOfClient) (queues : Bool) (lock : FairLock)
      → Tells (fair_try moment owner lease queues lock).reply
  tells-try moment lease owner queues lock =
      leased Tells lease lock
      (take_fair moment owner lease queues (live_places moment lock.queue)
      (live_hold moment lock.held))
      (tells-take moment lease owner queues (live_places moment lock.queue)
      (live_hold moment lock.held))
      (lets replies.BadLease refl)

  -- no other call is
  gives_back : (post : Option Post) (moment rest : ℕ) (owner : ThreadOfClient)
      (held : Option Hold) → refuses (give_back_hold post moment owner rest held).reply ≡ false
  gives_back post moment rest owner None = refl
  gives_back post moment rest owner (Some hold) =
      by (same_owner hold.owner owner) (hold.count == 1)
    where
      by : (own last : Bool)
          → refuses
          (if own
          then (if last then freeing post
          else holding replies.Kept owner (hold.count - 1) (moment + rest))
          else silent_outcome replies.NotHeld (Some hold)).reply
          ≡ false
      by true true = refl
      by true false = refl
      by false last = refl

  renews : (moment lease : ℕ) (owner : ThreadOfClient) (held : Option Hold)
      → refuses (renew_hold moment owner lease held).reply ≡ false
  renews moment lease owner None = refl
  renews moment lease owner (Some hold) = by (same_owner hold.owner owner)
    where
      by : (own : Bool)
          → refuses
          (if own then holding replies.Renewed owner hold.count (moment + lease)
          else silent_outcome replies.Lost (Some hold)).reply
          ≡ false
      by true = refl
      by false = refl

  unlocks : (name : List ℕ) (moment rest : ℕ) (owner : ThreadOfClient) (lock : FairLock)
      → refuses (fair_unlock name moment owner rest lock).reply ≡ false
  unlocks name moment rest owner lock =
      leased (λ reply. refuses reply ≡ false) rest lock
      (with_queue (live_places moment lock.queue)
      (give_back_hold (first_post name (live_places moment lock.queue)) moment owner rest
      (live_hold moment lock.held)))
      (gives_back (first_post name (live_places moment lock.queue)) moment rest owner
      (live_hold moment lock.held))
      refl

  renews-lock : (moment lease : ℕ) (owner : ThreadOfClient) (lock : FairLock)
      → refuses (fair_renew moment owner lease lock).reply ≡ false
  renews-lock moment lease owner lock =
      leased (λ reply. refuses reply ≡ false) lease lock
      (with_queue lock.queue (renew_hold moment owner lease (live_hold moment lock.held)))
      (renews moment lease owner (live_hold moment lock.held)) refl

-- who gives its place up isn't refused
leaves : (function : Function) (name : List ℕ) (owner : ThreadOfClient) (held : Option Hold)
    (queue : List FairPlace) (own : Option FairPlace)
    → blocks (leave_with name owner held queue own).reply function ≡ false
leaves function name owner held queue None = refl
leaves function name owner held queue (Some own) = refl

leave-lets : (function : Function) (objects : Objects) (moment : ℕ) (op : Op)
    → is_queue_leave op.call ≡ true → blocks (reply_of objects moment op) function ≡ false
leave-lets function objects moment op = by op.call
  where
    by_fair : (call : FairCall) → is_queue_leave (calls.Fair call) ≡ true
        → blocks (answer_call objects moment op.name (calls.Fair call)).reply function ≡ false
    by_fair (Leave owner) is =
        leaves function op.name owner
        (live_hold moment (objects.fair_locks op.name).held)
        (live_places moment (objects.fair_locks op.name).queue)
        (place_of owner (live_places moment (objects.fair_locks op.name).queue))
    by_fair _ is = absurd (false≢true is)

    by : (call : Call) → is_queue_leave call ≡ true
        → blocks (answer_call objects moment op.name call).reply function ≡ false
    by (calls.Fair call) is = by_fair call is
    by _ is = absurd (false≢true is)

-- Where the call of a request that may wait was refused.
module _ (world : World) (owner : ThreadOfClient) (want : Want) (lease at : ℕ)
    (past : at ≤ world.moment) (is : is_fair (channel_for owner want).kind ≡ true) where
  abbrev own : ChannelOf
  own = channel_for owner want

  abbrev sent : Op
  sent = op_of want owner lease true

  abbrev answer : Reply
  answer = reply_of (state_of world).objects world.moment sent

  owns : is_own_call own sent ≡ true
  owns =
      and_from (is_fair own.kind) (same_channel own (channel_of sent)) is
      (ap (same_channel own) (own_channel owner want lease true is) ∙ same_self own)

  -- only a try is refused, and it is told how long to wait
  refused-try : blocks answer want.function ≡ true
      → (want.function ≡ functions.Fair fair.Try)
      × ((millis : ℕ) × (answer ≡ replies.Busy millis))
  refused-try = by want.function refl
    where
      lock : FairLock
      lock = (state_of world).objects.fair_locks want.name

      reply : Function → Reply
      reply function =
          reply_of (state_of world).objects world.moment
          (record { name = want.name; call = call_of function want owner lease true })

      by_fair : (f : FairFunction) → want.function ≡ functions.Fair f
          → blocks (reply (functions.Fair f)) (functions.Fair f) ≡ true
          → (want.function ≡ functions.Fair fair.Try)
          × ((millis : ℕ) × (reply (functions.Fair f) ≡ replies.Busy millis))
      by_fair fair.Try e refused =
          (e, tells-try fair.Try world.moment lease owner true lock refused)
      by_fair fair.Unlock e refused =
          absurd
          (false≢true
          (sym (unlocks fair.Unlock want.name world.moment lease owner lock) ∙ refused))
      by_fair fair.Leave e refused =
          absurd
          (false≢true
          (sym
          (leave-lets (functions.Fair fair.Leave) (state_of world).objects world.moment
          (record { name = want.name; call = calls.Fair (Leave owner) }) refl)
          ∙ refused))
      by_fair fair.Renew e refused =
          absurd
          (false≢true (sym (renews-lock fair.Renew world.moment lease owner lock) ∙ refused))

      -- it is a request for a fair lock
      other : (function : Function) → want.function ≡ function
          → is_fair (call_kind (call_of function want owner 0 false)) ≡ false → ⊥
      other function e not_fair =
          false≢true
          (sym not_fair
          ∙ sym (ap (λ g. is_fair (call_kind (call_of g want owner 0 false))) e) ∙ is)

      by : (function : Function) → want.function ≡ function
          → blocks (reply function) function ≡ true
          → (want.function ≡ functions.Fair fair.Try)
          × ((millis : ℕ) × (reply function ≡ replies.Busy millis))
      by (functions.Fair f) e refused = by_fair f e refused
      by (functions.Lock f) e refused = absurd (other (functions.Lock f) e refl)
      by (functions.Fenced f) e refused = absurd (other (functions.Fenced f) e refl)
      by (functions.ReadWrite f) e refused = absurd (other (functions.ReadWrite f) e refl)
      by (functions.Semaphore f) e refused = absurd (other (functions.Semaphore f) e refl)
      by (functions.Permits f) e refused = absurd (other (functions.Permits f) e refl)
      by (functions.Countdown f) e refused = absurd (other (functions.Countdown f) e refl)

  left-place : blocks answer want.function ≡ true
      → HasPlace ((turn_of world sent).left own) (due_by_reply at (Some answer))
  left-place refused =
      let told = refused-try refused in
      let try : sent ≡ call_on want.name (calls.Fair (Try owner lease true)) =
      λ i. record { name = want.name; call = call_of (told.0 i) want owner lease true } in
      let placed = place_left-call owner want.name (state_of world).objects world.moment lease
      told.1.0
      (sym (ap (reply_of (state_of world).objects world.moment) try) ∙ told.1.1) in record {
        stale = placed.place.stale;
        moment = at + told.1.0;
        kept =
            ap
            (λ b. if b then stale_on own (objects_after (state_of world).objects world.moment sent)
            else left_of world own)
            (and_from (is_own_call own sent) (not (renews_fair sent.call)) owns
            (ap (λ f. not (renews_fair (call_of f want owner lease true))) told.0))
            ∙ ap
            (λ o. stale_of o want.name
            (objects_after (state_of world).objects world.moment sent))
            (names_owner owner want is)
            ∙ ap
            (λ (o : Op). stale_of (Some owner) want.name
            (objects_after (state_of world).objects world.moment o)) try
            ∙ ap (option_map (λ (p : FairPlace). p.stale)) placed.found;
        asks = ap (λ r. due_by_reply at (Some r)) told.1.1;
        lasts = omega (arith, placed.lasts, past);
      }

  left-untold : blocks answer want.function ≡ true → (turn_of world sent).told own ≡ false
  left-untold refused =
      let told = refused-try refused in
      ap (λ b. if b then false else told_of world own)
      (and_from (is_own_call own sent) (is_queue_try sent.call) owns
      (ap (λ f. is_queue_try (call_of f want owner lease true)) told.0))

pub answered-queued : (world : World) (client : Client) (id : List ℕ) (thread : ℕ)
    (asking : Asking) → client.session.client ≡ id
    → AskedWith world.moment (record { client = id; thread = thread }) (waiter_in client thread)
    → asked_of client thread ≡ Some asking
    → (waiter : Waiter) → waiter_in client thread ≡ Some waiter
    → IsLeftQueued (turn_of world asking.op) (owner_in client.session thread) waiter asking
    (reply_of (state_of world).objects world.moment asking.op)
answered-queued world client id thread asking mine asked was_sent waiter was =
    subst
    (λ k. IsLeftQueued (turn_of world asking.op) (record { client = k; thread = thread }) waiter
    asking (reply_of (state_of world).objects world.moment asking.op))
    (sym mine)
    (record {
      place = λ inside is refused. by sent.op inside is refused;
      untold = λ inside is refused. untold sent.op inside is refused;
      ends =
          leave-lets waiter.want.function (state_of world).objects world.moment asking.op;
    })
  where
    owner : ThreadOfClient
    owner = record { client = id; thread = thread }

    made : IsMade world.moment (record { client = id; thread = thread }) waiter
    made = subst (AskedWith world.moment (record { client = id; thread = thread })) was asked

    sent : IsAsked world.moment (record { client = id; thread = thread }) waiter.mode waiter.want
        asking
    sent =
        asked-is world.moment (record { client = id; thread = thread }) waiter
        (client.replies thread) asking made
        (ap (λ found. asked_by found (client.replies thread)) (sym was) ∙ was_sent)

    -- the call that was sent is a try of one that may wait
    queues : waiter.registered ≡ true
        → asking.op ≡ op_of waiter.want (record { client = id; thread = thread }) sent.lease
        (may_wait waiter.mode)
        → asking.op
        ≡ op_of waiter.want (record { client = id; thread = thread }) sent.lease true
    queues inside e =
        e
        ∙ ap (op_of waiter.want (record { client = id; thread = thread }) sent.lease)
        (made.waits inside)

    -- or it gives the place up, and isn't refused
    never_left : is_fair
        (channel_for (record { client = id; thread = thread }) waiter.want).kind ≡ true
        → asking.op
        ≡ op_of (leaving_want waiter.want (leaving_function waiter.want.function))
        (record { client = id; thread = thread }) sent.lease (may_wait waiter.mode)
        → blocks (reply_of (state_of world).objects world.moment asking.op) waiter.want.function
        ≡ true → ⊥
    never_left is e refused =
        false≢true
        (sym
        (leave-lets waiter.want.function (state_of world).objects world.moment asking.op
        (ap (λ (o : Op). is_queue_leave o.call) e ∙ is_leave waiter.want.function is))
        ∙ refused)
      where
        is_leave : (function : Function)
            → is_fair
            (call_kind
            (call_of function waiter.want (record { client = id; thread = thread }) 0 false))
            ≡ true
            → is_queue_leave
            (op_of (leaving_want waiter.want (leaving_function function))
            (record { client = id; thread = thread }) sent.lease (may_wait waiter.mode)).call
            ≡ true
        is_leave (functions.Fair f) fair_is = refl
        is_leave (functions.Lock f) fair_is = absurd (false≢true fair_is)
        is_leave (functions.Fenced f) fair_is = absurd (false≢true fair_is)
        is_leave (functions.ReadWrite f) fair_is = absurd (false≢true fair_is)
        is_leave (functions.Semaphore f) fair_is = absurd (false≢true fair_is)
        is_leave (functions.Permits f) fair_is = absurd (false≢true fair_is)
        is_leave (functions.Countdown f) fair_is = absurd (false≢true fair_is)

    by : (asking.op
        ≡ op_of waiter.want (record { client = id; thread = thread }) sent.lease
        (may_wait waiter.mode))
        ⊎ (asking.op
        ≡ op_of (leaving_want waiter.want (leaving_function waiter.want.function))
        (record { client = id; thread = thread }) sent.lease (may_wait waiter.mode))
        → waiter.registered ≡ true
        → is_fair (channel_for (record { client = id; thread = thread }) waiter.want).kind ≡ true
        → blocks (reply_of (state_of world).objects world.moment asking.op) waiter.want.function
        ≡ true
        → HasPlace
        ((turn_of world asking.op).left
        (channel_for (record { client = id; thread = thread }) waiter.want))
        (due_by_reply asking.at
        (Some (reply_of (state_of world).objects world.moment asking.op)))
    by (inl e) inside is refused =
        subst
        (λ o. HasPlace
        ((turn_of world o).left
        (channel_for (record { client = id; thread = thread }) waiter.want))
        (due_by_reply asking.at (Some (reply_of (state_of world).objects world.moment o))))
        (sym (queues inside e))
        (left-place world (record { client = id; thread = thread }) waiter.want sent.lease
        asking.at sent.past is
        (sym
        (ap
        (λ o. blocks (reply_of (state_of world).objects world.moment o) waiter.want.function)
        (queues inside e))
        ∙ refused))
    by (inr e) inside is refused = absurd (never_left is e refused)

    untold : (asking.op
        ≡ op_of waiter.want (record { client = id; thread = thread }) sent.lease
        (may_wait waiter.mode))
        ⊎ (asking.op
        ≡ op_of (leaving_want waiter.want (leaving_function waiter.want.function))
        (record { client = id; thread = thread }) sent.lease (may_wait waiter.mode))
        → waiter.registered ≡ true
        → is_fair (channel_for (record { client = id; thread = thread }) waiter.want).kind ≡ true
        → blocks (reply_of (state_of world).objects world.moment asking.op) waiter.want.function
        ≡ true
        → (turn_of world asking.op).told
        (channel_for (record { client = id; thread = thread }) waiter.want)
        ≡ false
    untold (inl e) inside is refused =
        ap
        (λ o. (turn_of world o).told
        (channel_for (record { client = id; thread = thread }) waiter.want))
        (queues inside e)
        ∙ left-untold world (record { client = id; thread = thread }) waiter.want sent.lease
        asking.at sent.past is
        (sym
        (ap
        (λ o. blocks (reply_of (state_of world).objects world.moment o) waiter.want.function)
        (queues inside e))
        ∙ refused)
    untold (inr e) inside is refused = absurd (never_left is e refused)
