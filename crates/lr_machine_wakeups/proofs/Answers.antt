-- A reply that refuses a call, on a channel where a message wakes one of many, gives a timer in
-- time.
use Rattle.std.proofs.Common.{◌≡◌, ℕ, ◌+◌, ◌-◌, ◌≤◌, ◌<◌, ◌==◌, List, Bool, true, false, Option, Some, None, if◌then◌else◌, refl, sym, ap, ◌∙◌, subst, arith}
use Rattle.std.proofs.lemmas.Bool.{false≢true, ltb-true}
use Rattle.std.proofs.lemmas.Option.{same_Some}
use Rattle.lr_limits.specs.Limits.{hold_limit, token_limit}
use Rattle.lr_names.specs.Owner.{ThreadOfClient, same_owner}
use Rattle.lr_names.specs.declared.post.Post.{Post}
use Rattle.lr_objects.specs.Kinds.{call_of, call_kind}
use Rattle.lr_objects.specs.LockCalls.{lock_call_of}
use Rattle.lr_objects.specs.FencedCalls.{fenced_call_of}
use Rattle.lr_objects.specs.Reply.{blocks}
use Rattle.lr_objects.specs.Want.{op_of}
use Rattle.lr_objects.specs.declared.fenced.FencedCall.{FencedCall}
use Rattle.lr_objects.specs.declared.fenced.FencedCall.TheVariants as fenced
use Rattle.lr_objects.specs.declared.fenced.FencedFunction.{FencedFunction}
use Rattle.lr_objects.specs.declared.kinds.Function.{Function}
use Rattle.lr_objects.specs.declared.kinds.Function.TheVariants as functions
use Rattle.lr_objects.specs.declared.lock.LockCall.{LockCall}
use Rattle.lr_objects.specs.declared.lock.LockCall.TheVariants as lock
use Rattle.lr_objects.specs.declared.reply.Reply.{Reply}
use Rattle.lr_objects.specs.declared.reply.Reply.TheVariants.{Granted, GrantedToken, Busy, Kept, Freed, NotHeld, Renewed, Lost, TooDeep, BadLease, TokensSpent}
use Rattle.lr_objects.specs.declared.want.Want.{Want}
use Rattle.lr_model.specs.declared.hold.Hold.{Hold}
use Rattle.lr_model.specs.Answer.{Objects, reply_of}
use Rattle.lr_model.specs.Fenced.{FencedLock, fenced_post, reply_with_token, with_token, take_fenced, fenced_call}
use Rattle.lr_model.specs.Hold.{live_hold, holding, freeing, take_hold, give_back_hold, renew_hold, end_hold}
use Rattle.lr_model.specs.Moment.{is_lease, is_live}
use Rattle.lr_model.specs.Mutex.{lock_post, lock_call}
use Rattle.lr_model.specs.Outcome.{Outcome, silent_outcome, with_lease}
use Rattle.lr_waiting.specs.declared.waiter.Asking.{Asking}
use Rattle.lr_waiting.specs.declared.waiter.Stage.{Stage}
use Rattle.lr_waiting.specs.declared.waiter.Stage.TheVariants.{Asked}
use Rattle.lr_waiting.specs.declared.waiter.Waiter.{Waiter}
use Rattle.lr_waiting.specs.Client.{Client, waiter_in, asked_at, asked_by, asked_of}
use Rattle.lr_waiting.specs.Peak.{deadline_of, live_until, peak_after}
use Rattle.lr_waiting.specs.Session.{owner_in, channel_in, may_wait}
use Rattle.lr_wakeups.specs.Standing.{wakes_one_of_many, IsInTime}
use Rattle.lr_machine.specs.Sound.{IsInOrder}
use Rattle.lr_machine.specs.World.{World, first_state, state_of}
use Rattle.lr_machine_wakeups.specs.WorldFacts.{peak_for, peak_of, IsAsked, AskedAt, IsMade, AskedWith}
use Rattle.lr_machine_wakeups.proofs.Shared.{shared-many, stays-many, own-op}
use Rattle.lr_machine_wakeups.proofs.Deadlines.{below-history}

-- a reply that refuses a call says how long to wait, and that is no later than this
abbrev pub TellsTime : Function → ℕ → ℕ → Reply → Type 0
TellsTime function moment until reply =
    blocks reply function ≡ true → (millis : ℕ) × (reply ≡ Busy millis) × (moment + millis ≤ until)

-- a reply that doesn't refuse
pub lets : (function : Function) (moment until : ℕ) (reply : Reply) → blocks reply function ≡ false
    → TellsTime function moment until reply
lets function moment until reply not_blocked blocked =
    absurd (false≢true (sym not_blocked ∙ blocked))

-- what is live ends later than now
abbrev IsAhead : ℕ → Option Hold → Type 0
IsAhead moment None = Unit {0}
IsAhead moment (Some hold) = moment < hold.deadline

live-ahead : (moment : ℕ) (held : Option Hold) → IsAhead moment (live_hold moment held)
live-ahead moment None = tt
live-ahead moment (Some hold) = by (is_live hold.deadline moment) refl
  where
    by : (live : Bool) → is_live hold.deadline moment ≡ live
        → IsAhead moment (if live then Some hold else None)
    by true e = ltb-true moment hold.deadline e
    by false e = tt

module _ (function : Function) (moment : ℕ) where
  -- an outcome whose reply does so
  abbrev Tells : {X : Type 0} → ℕ → Outcome X → Type 0
  Tells until outcome = TellsTime function moment until outcome.reply

  leased : {X : Type 0} (until lease : ℕ) (object : X) (outcome : Outcome X) → Tells until outcome
      → Tells until (with_lease lease object outcome)
  leased until lease object outcome tells = by (is_lease lease)
    where
      by : (is : Bool) → Tells until (if is then outcome else silent_outcome BadLease object)
      by true = tells
      by false = lets function moment until BadLease refl

  busy : (hold : Hold) → moment < hold.deadline
      → TellsTime function moment hold.deadline (Busy (hold.deadline - moment))
  busy hold ahead blocked = (hold.deadline - moment, refl, omega (arith, ahead))

  tells-take : (owner : ThreadOfClient) (lease : ℕ) (held : Option Hold) → IsAhead moment held
      → Tells (deadline_of held) (take_hold moment owner lease held)
  tells-take owner lease None ahead = lets function moment 0 Granted refl
  tells-take owner lease (Some hold) ahead =
      by (same_owner hold.owner owner) (hold.count == hold_limit)
    where
      by : (own full : Bool)
          → Tells hold.deadline
          (if own
          then (if full then silent_outcome TooDeep (Some hold)
          else holding Granted owner (hold.count + 1) (moment + lease))
          else silent_outcome (Busy (hold.deadline - moment)) (Some hold))
      by true true = lets function moment hold.deadline TooDeep refl
      by true false = lets function moment hold.deadline Granted refl
      by false full = busy hold ahead

  tells-give_back : (until : ℕ) (post : Option Post) (owner : ThreadOfClient) (rest : ℕ)
      (held : Option Hold) → Tells until (give_back_hold post moment owner rest held)
  tells-give_back until post owner rest None = lets function moment until NotHeld refl
  tells-give_back until post owner rest (Some hold) =
      by (same_owner hold.owner owner) (hold.count == 1)
    where
      by : (own last : Bool)
          → Tells until
          (if own
          then (if last then freeing post
          else holding Kept owner (hold.count - 1) (moment + rest))
          else silent_outcome NotHeld (Some hold))
      by true true = lets function moment until Freed refl
      by true false = lets function moment until Kept refl
      by false last = lets function moment until NotHeld refl

  tells-renew : (until : ℕ) (owner : ThreadOfClient) (lease : ℕ) (held : Option Hold)
      → Tells until (renew_hold moment owner lease held)
  tells-renew until owner lease None = lets function moment until Lost refl
  tells-renew until owner lease (Some hold) = by (same_owner hold.owner owner)
    where
      by : (own : Bool)
          → Tells until
          (if own then holding Renewed owner hold.count (moment + lease)
          else silent_outcome Lost (Some hold))
      by true = lets function moment until Renewed refl
      by false = lets function moment until Lost refl

  tells-end : (until : ℕ) (post : Option Post) (held : Option Hold)
      → Tells until (end_hold post held)
  tells-end until post None = lets function moment until NotHeld refl
  tells-end until post (Some hold) = lets function moment until Freed refl

  tells-lock : (name : List ℕ) (call : LockCall) (held : Option Hold)
      → Tells (deadline_of (live_hold moment held)) (lock_call name moment call held)
  tells-lock name (lock.Try owner lease) held =
      leased (deadline_of (live_hold moment held)) lease held
      (take_hold moment owner lease (live_hold moment held))
      (tells-take owner lease (live_hold moment held) (live-ahead moment held))
  tells-lock name (lock.Unlock owner rest) held =
      leased (deadline_of (live_hold moment held)) rest held
      (give_back_hold (Some (lock_post name)) moment owner rest (live_hold moment held))
      (tells-give_back (deadline_of (live_hold moment held)) (Some (lock_post name)) owner rest
      (live_hold moment held))
  tells-lock name (lock.Renew owner lease) held =
      leased (deadline_of (live_hold moment held)) lease held
      (renew_hold moment owner lease (live_hold moment held))
      (tells-renew (deadline_of (live_hold moment held)) owner lease (live_hold moment held))
  tells-lock name lock.Force held =
      tells-end (deadline_of (live_hold moment held)) (Some (lock_post name))
      (live_hold moment held)

-- a token in the reply refuses nobody
tells-token : (function : Function) (moment until token : ℕ) (outcome : Outcome (Option Hold))
    → TellsTime function moment until outcome.reply
    → TellsTime function moment until (with_token token outcome).reply
tells-token function moment until token outcome = by outcome.reply
  where
    by : (reply : Reply) → TellsTime function moment until reply
        → TellsTime function moment until (reply_with_token token reply)
    by Granted tells = lets function moment until (GrantedToken token) refl
    by _ tells = tells

tells-take_fenced : (function : Function) (moment : ℕ) (owner : ThreadOfClient) (lease token : ℕ)
    (held : Option Hold) → IsAhead moment held
    → TellsTime function moment (deadline_of held)
    (take_fenced moment owner lease token held).reply
tells-take_fenced function moment owner lease token None ahead = by (token == token_limit)
  where
    by : (spent : Bool)
        → TellsTime function moment 0
        (if spent then silent_outcome TokensSpent (record { held = None; token = token })
        else with_token (token + 1) (take_hold moment owner lease None)).reply
    by true = lets function moment 0 TokensSpent refl
    by false = lets function moment 0 (GrantedToken (token + 1)) refl
tells-take_fenced function moment owner lease token (Some hold) ahead =
    tells-token function moment hold.deadline token (take_hold moment owner lease (Some hold))
    (tells-take function moment owner lease (Some hold) ahead)

tells-fenced : (f : FencedFunction) (moment : ℕ) (name : List ℕ) (call : FencedCall)
    (held : FencedLock)
    → TellsTime (functions.Fenced f) moment (deadline_of (live_hold moment held.held))
    (fenced_call name moment call held).reply
tells-fenced f moment name (fenced.Try owner lease) held =
    leased (functions.Fenced f) moment (deadline_of (live_hold moment held.held)) lease held
    (take_fenced moment owner lease held.token (live_hold moment held.held))
    (tells-take_fenced (functions.Fenced f) moment owner lease held.token
    (live_hold moment held.held) (live-ahead moment held.held))
tells-fenced f moment name (fenced.Unlock owner rest) held =
    leased (functions.Fenced f) moment (deadline_of (live_hold moment held.held)) rest held
    (with_token held.token
    (give_back_hold (Some (fenced_post name)) moment owner rest (live_hold moment held.held)))
    (tells-token (functions.Fenced f) moment (deadline_of (live_hold moment held.held)) held.token
    (give_back_hold (Some (fenced_post name)) moment owner rest (live_hold moment held.held))
    (tells-give_back (functions.Fenced f) moment (deadline_of (live_hold moment held.held))
    (Some (fenced_post name)) owner rest (live_hold moment held.held)))
tells-fenced f moment name (fenced.Renew owner lease) held =
    leased (functions.Fenced f) moment (deadline_of (live_hold moment held.held)) lease held
    (with_token held.token (renew_hold moment owner lease (live_hold moment held.held)))
    (tells-token (functions.Fenced f) moment (deadline_of (live_hold moment held.held)) held.token
    (renew_hold moment owner lease (live_hold moment held.held))
    (tells-renew (functions.Fenced f) moment (deadline_of (live_hold moment held.held)) owner lease
    (live_hold moment held.held)))
tells-fenced f moment name fenced.Token held =
    λ blocked. absurd (false≢true blocked)

-- The call of a want: what its function is about is what refuses it.
tells-want : (objects : Objects) (moment : ℕ) (function : Function) (name : List ℕ) (want : Want)
    (owner other : ThreadOfClient) (lease : ℕ) (queue : Bool)
    → wakes_one_of_many (call_kind (call_of function want other 0 false)) ≡ true
    → TellsTime function moment
    (live_until objects (call_kind (call_of function want other 0 false)) name moment)
    (reply_of objects moment (record { name = name; call = call_of function want owner lease queue }))
tells-want objects moment (functions.Lock f) name want owner other lease queue one =
    tells-lock (functions.Lock f) moment name (lock_call_of f owner lease) (objects.mutexes name)
tells-want objects moment (functions.Fenced f) name want owner other lease queue one =
    tells-fenced f moment name (fenced_call_of f owner lease) (objects.fenced_locks name)
tells-want objects moment (functions.Fair f) name want owner other lease queue one =
    absurd (false≢true one)
tells-want objects moment (functions.ReadWrite f) name want owner other lease queue one =
    absurd (false≢true one)
tells-want objects moment (functions.Semaphore f) name want owner other lease queue one =
    absurd (false≢true one)
tells-want objects moment (functions.Permits f) name want owner other lease queue one =
    absurd (false≢true one)
tells-want objects moment (functions.Countdown f) name want owner other lease queue one =
    absurd (false≢true one)

pub never : {A : Type 0} (x : A) → None ≡ Some x → ⊥
never x e = absurd (cc e)

-- a call that was sent
pub asked-is : (moment : ℕ) (owner : ThreadOfClient) (waiter : Waiter) (reply : Option Reply)
    (asking : Asking) → IsMade moment owner waiter
    → asked_at waiter.stage reply ≡ Some asking
    → IsAsked moment owner waiter.mode waiter.want asking
asked-is moment owner waiter reply asking made = by waiter.stage reply made.asked
  where
    by : (stage : Stage) (reply : Option Reply)
        → AskedAt moment owner waiter.mode waiter.want stage
        → asked_at stage reply ≡ Some asking
        → IsAsked moment owner waiter.mode waiter.want asking
    by (Asked other) None asked e =
        subst (IsAsked moment owner waiter.mode waiter.want) (same_Some other asking e) asked
    by _ reply asked e = absurd (never asking e)

pub answered-in_time : (world : World) (client : Client) (id : List ℕ) (thread : ℕ)
    (asking : Asking) → client.session.client ≡ id → IsInOrder world
    → AskedWith world.moment (record { client = id; thread = thread }) (waiter_in client thread)
    → asked_of client thread ≡ Some asking
    → (waiter : Waiter) → waiter_in client thread ≡ Some waiter
    → IsInTime (peak_of world) client thread waiter asking
    (reply_of (state_of world).objects world.moment asking.op)
answered-in_time world client id thread asking mine order asked sent waiter was = record {
  timer = λ one blocked.
      let own = owner_in client.session thread in
      let same = ap (reply_of (state_of world).objects world.moment) (is_own one) in
      let told =
      tells-want (state_of world).objects world.moment waiter.want.function waiter.want.name
      waiter.want (record { client = id; thread = thread }) own asks.lease (may_wait waiter.mode)
      one (ap (λ reply. blocks reply waiter.want.function) (sym same) ∙ blocked) in
      let below : live_until (state_of world).objects
      (channel_in client.session thread waiter).kind waiter.want.name world.moment
      ≤ peak_of world (channel_in client.session thread waiter) =
      subst
      (λ b. live_until (state_of world).objects (channel_in client.session thread waiter).kind
      waiter.want.name world.moment
      ≤ peak_for b
      (peak_after (channel_in client.session thread waiter).kind waiter.want.name first_state
      world.entries 0))
      (sym (shared-many own waiter.want one))
      (below-history world.entries (channel_in client.session thread waiter).kind
      waiter.want.name order.legal world.moment order.in_time) in
      (told.0, same ∙ told.1, omega (arith, told.2, below, asks.past));
}
  where
    asks : IsAsked world.moment (record { client = id; thread = thread }) waiter.mode waiter.want
        asking
    asks =
        asked-is world.moment (record { client = id; thread = thread }) waiter
        (client.replies thread) asking
        (subst (AskedWith world.moment (record { client = id; thread = thread })) was asked)
        (ap (λ found. asked_by found (client.replies thread)) (sym was) ∙ sent)

    is_own : wakes_one_of_many (channel_in client.session thread waiter).kind ≡ true
        → asking.op
        ≡ op_of waiter.want (record { client = id; thread = thread }) asks.lease
        (may_wait waiter.mode)
    is_own one =
        own-op waiter.want (record { client = id; thread = thread }) asks.lease
        (may_wait waiter.mode) asking.op
        (stays-many (owner_in client.session thread) waiter.want one) asks.op
