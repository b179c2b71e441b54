-- Live holds end by the peak.
use Rattle.std.proofs.Common.{◌≡◌, ℕ, ◌+◌, ◌-◌, ◌<◌, ◌≤◌, ◌==◌, nat_lt, max, List, [], ◌∷◌, Bool, true, false, Option, Some, None, refl, sym, ◌∙◌, subst, arith, if◌then◌else◌}
use Rattle.std.specs.Str.{bytes_eq}
use Rattle.std.proofs.lemmas.Bool.{ltb-true, lt-ltb, false≢true}
use Rattle.std.proofs.lemmas.Bool.Decides.{same_from_decides, Decides-like}
use Rattle.std.proofs.lemmas.Slice.Eq.{bytes_eq-Decides}
use Rattle.std.proofs.lemmas.Option.{same_Some}
use Rattle.lr_limits.specs.Limits.{hold_limit, token_limit}
use Rattle.lr_names.specs.Owner.{ThreadOfClient, same_owner}
use Rattle.lr_names.specs.declared.kind.Kind.{Kind}
use Rattle.lr_names.specs.declared.kind.Kind.TheVariants as kinds
use Rattle.lr_names.specs.declared.post.Post.{Post}
use Rattle.lr_objects.specs.Op.{kind_of, name_of, call_on}
use Rattle.lr_objects.specs.declared.fenced.FencedCall.{FencedCall}
use Rattle.lr_objects.specs.declared.fenced.FencedCall.TheVariants as fenced
use Rattle.lr_objects.specs.declared.kinds.Call.{Call}
use Rattle.lr_objects.specs.declared.kinds.Call.TheVariants as calls
use Rattle.lr_objects.specs.declared.lock.LockCall.{LockCall}
use Rattle.lr_objects.specs.declared.lock.LockCall.TheVariants as lock
use Rattle.lr_objects.specs.declared.op.Op.{Op}
use Rattle.lr_objects.specs.declared.reply.Reply.{Reply}
use Rattle.lr_objects.specs.declared.reply.Reply.TheVariants as replies
use Rattle.lr_model.specs.declared.entry.Act.{Act}
use Rattle.lr_model.specs.declared.entry.Act.TheVariants as acts
use Rattle.lr_model.specs.declared.entry.Entry.{Entry}
use Rattle.lr_model.specs.declared.hold.Hold.{Hold}
use Rattle.lr_model.specs.Answer.{Objects, reply_of, objects_after, post_of}
use Rattle.lr_model.specs.Fenced.{FencedLock, fenced_post, reply_with_token, with_token, take_fenced, fenced_call, fenced_concern}
use Rattle.lr_model.specs.History.{State, state_at_start, step, after, objects_by, IsLegal}
use Rattle.lr_model.specs.Hold.{live_hold, take_hold, give_back_hold, renew_hold, end_hold}
use Rattle.lr_model.specs.Moment.{is_lease}
use Rattle.lr_model.specs.Mutex.{lock_post, lock_call, lock_concern}
use Rattle.lr_model.specs.Outcome.{Outcome, silent_outcome, with_lease}
use Rattle.lr_model.specs.Table.{put}
use Rattle.lr_model.specs.Tenure.{lease_in}
use Rattle.lr_waiting.specs.Peak.{deadline_of, live_until, is_about, tells, gives_deadline, deadline_given, peak_by_call, peak_by_act, peak_after}
use Rattle.lr_wakeups.specs.Peaks.{EndByThePeak, RefusedUntilThePeak}
use Rattle.lr_wakeups.specs.Standing.{wakes_one_of_many}

-- what is live later was live before, with its deadline
live_later : (m n : ℕ) (held : Option Hold) → m ≤ n
    → deadline_of (live_hold n held) ≤ deadline_of (live_hold m held)
live_later m n None le = omega arith
live_later m n (Some hold) le = by (nat_lt m hold.deadline) (nat_lt n hold.deadline) refl refl
  where
    by : (b c : Bool) → nat_lt m hold.deadline ≡ b → nat_lt n hold.deadline ≡ c
        → deadline_of (if c then Some hold else None) ≤ deadline_of (if b then Some hold else None)
    by true true e f = omega arith
    by true false e f = omega arith
    by false false e f = omega arith
    by false true e f = absurd (false≢true (sym e ∙ lt-ltb m hold.deadline (omega (arith, ltb-true n hold.deadline f, le))))

-- what is live has a deadline that is at most that of the hold
live_least : (m : ℕ) (held : Option Hold) → deadline_of (live_hold m held) ≤ deadline_of held
live_least m None = omega arith
live_least m (Some hold) = by (nat_lt m hold.deadline)
  where
    by : (b : Bool) → deadline_of (if b then Some hold else None) ≤ hold.deadline
    by true = omega arith
    by false = omega arith

module _ (peak moment : ℕ) where
  -- the deadline that a reply gives, with this lease
  abbrev given : ℕ → Reply → ℕ
  given lease reply = if gives_deadline reply then moment + lease else 0

  -- the hold that a function leaves ends by the peak, which its reply may raise
  abbrev Ends : ℕ → Reply → Option Hold → Type 0
  Ends lease reply held = deadline_of held ≤ max peak (given lease reply)

  module _ (lease : ℕ) (owner : ThreadOfClient) where
    takes : (live : Option Hold) → deadline_of live ≤ peak
        → Ends lease (take_hold moment owner lease live).reply
        (take_hold moment owner lease live).object
    takes None few = omega arith
    takes (Some hold) few = by (same_owner hold.owner owner) (hold.count == hold_limit)
      where
        outcome : Bool → Bool → Outcome (Option Hold)
        outcome mine deep = if mine then (if deep then silent_outcome replies.TooDeep (Some hold)
            else record {
              reply = replies.Granted;
              object = Some (record { owner = owner; count = hold.count + 1; deadline = moment + lease });
              post = None;
            })
            else silent_outcome (replies.Busy (hold.deadline - moment)) (Some hold)

        by : (mine deep : Bool) → Ends lease (outcome mine deep).reply (outcome mine deep).object
        by true true = omega (arith, few)
        by true false = omega arith
        by false deep = omega (arith, few)

    gives_back : (post : Option Post) (live : Option Hold) → deadline_of live ≤ peak
        → Ends lease (give_back_hold post moment owner lease live).reply
        (give_back_hold post moment owner lease live).object
    gives_back post None few = omega arith
    gives_back post (Some hold) few = by (same_owner hold.owner owner) (hold.count == 1)
      where
        outcome : Bool → Bool → Outcome (Option Hold)
        outcome mine last = if mine then (if last
            then record { reply = replies.Freed; object = None; post = post }
            else record {
              reply = replies.Kept;
              object = Some (record { owner = owner; count = hold.count - 1; deadline = moment + lease });
              post = None;
            })
            else silent_outcome replies.NotHeld (Some hold)

        by : (mine last : Bool) → Ends lease (outcome mine last).reply (outcome mine last).object
        by true true = omega arith
        by true false = omega arith
        by false last = omega (arith, few)

    renews : (live : Option Hold) → deadline_of live ≤ peak
        → Ends lease (renew_hold moment owner lease live).reply
        (renew_hold moment owner lease live).object
    renews None few = omega arith
    renews (Some hold) few = by (same_owner hold.owner owner)
      where
        outcome : Bool → Outcome (Option Hold)
        outcome mine = if mine
            then record {
              reply = replies.Renewed;
              object = Some (record { owner = owner; count = hold.count; deadline = moment + lease });
              post = None;
            }
            else silent_outcome replies.Lost (Some hold)

        by : (mine : Bool) → Ends lease (outcome mine).reply (outcome mine).object
        by true = omega arith
        by false = omega (arith, few)

  forces : (post : Option Post) (live : Option Hold) → deadline_of live ≤ peak
      → Ends 0 (end_hold post live).reply (end_hold post live).object
  forces post None few = omega arith
  forces post (Some hold) few = omega arith

  -- what is live of the object of a lock ends by the peak from this moment on
  abbrev Below : Option Hold → Type 0
  Below held = (m : ℕ) → moment ≤ m → deadline_of (live_hold m held) ≤ peak

  abbrev StillBelow : ℕ → Reply → Option Hold → Type 0
  StillBelow lease reply held =
      (m : ℕ) → moment ≤ m → deadline_of (live_hold m held) ≤ max peak (given lease reply)

  still : (lease : ℕ) (reply : Reply) (held : Option Hold) → Ends lease reply held
      → StillBelow lease reply held
  still lease reply held ends m le = omega (arith, ends, live_least m held)

  stays : (lease : ℕ) (reply : Reply) (held : Option Hold) → Below held
      → StillBelow lease reply held
  stays lease reply held below m le = omega (arith, below m le)

  -- a lease out of range changes nothing
  leased : {X : Type 0} (held_in : X → Option Hold) (lease : ℕ) (object : X) (outcome : Outcome X)
      → Below (held_in object) → StillBelow lease outcome.reply (held_in outcome.object)
      → StillBelow lease (with_lease lease object outcome).reply
      (held_in (with_lease lease object outcome).object)
  leased {X} held_in lease object outcome below then_ = by (is_lease lease)
    where
      by : (b : Bool)
          → StillBelow lease
          (if b then outcome else silent_outcome replies.BadLease object).reply
          (held_in (if b then outcome else silent_outcome replies.BadLease object).object)
      by true = then_
      by false = stays lease replies.BadLease (held_in object) below

  -- a call on a plain lock
  locks : (key : List ℕ) (call : LockCall) (held : Option Hold) → Below held
      → StillBelow (lease_in (lock_concern call)) (lock_call key moment call held).reply
      (lock_call key moment call held).object
  locks key (lock.Try owner lease) held below =
      leased (λ x. x) lease held (take_hold moment owner lease (live_hold moment held)) below
      (still lease _ _ (takes lease owner (live_hold moment held) (below moment (omega arith))))
  locks key (lock.Unlock owner rest) held below =
      leased (λ x. x) rest held
      (give_back_hold (Some (lock_post key)) moment owner rest (live_hold moment held)) below
      (still rest _ _
      (gives_back rest owner (Some (lock_post key)) (live_hold moment held)
      (below moment (omega arith))))
  locks key (lock.Renew owner lease) held below =
      leased (λ x. x) lease held (renew_hold moment owner lease (live_hold moment held)) below
      (still lease _ _ (renews lease owner (live_hold moment held) (below moment (omega arith))))
  locks key lock.Force held below =
      still 0 _ _
      (forces (Some (lock_post key)) (live_hold moment held) (below moment (omega arith)))

  -- a token that is told besides gives no deadline
  token_gives : (token : ℕ) (reply : Reply)
      → gives_deadline (reply_with_token token reply) ≡ gives_deadline reply
  token_gives token replies.Granted = refl
  token_gives token _ = refl

  tokened : (lease token : ℕ) (outcome : Outcome (Option Hold))
      → Ends lease outcome.reply outcome.object
      → StillBelow lease (with_token token outcome).reply (with_token token outcome).object.held
  tokened lease token outcome ends =
      still lease (reply_with_token token outcome.reply) outcome.object
      (subst (λ b. deadline_of outcome.object ≤ max peak (if b then moment + lease else 0))
      (sym (token_gives token outcome.reply)) ends)

  takes_fenced : (lease : ℕ) (owner : ThreadOfClient) (token : ℕ) (live : Option Hold)
      → deadline_of live ≤ peak
      → StillBelow lease (take_fenced moment owner lease token live).reply
      (take_fenced moment owner lease token live).object.held
  takes_fenced lease owner token None few = by (token == token_limit)
    where
      by : (spent : Bool)
          → StillBelow lease
          (if spent
          then silent_outcome replies.TokensSpent (record { held = None; token = token })
          else with_token (token + 1) (take_hold moment owner lease None)).reply
          (if spent
          then silent_outcome replies.TokensSpent (record { held = None; token = token })
          else with_token (token + 1) (take_hold moment owner lease None)).object.held
      by true = still lease replies.TokensSpent None (omega arith)
      by false = tokened lease (token + 1) (take_hold moment owner lease None)
          (takes lease owner None few)
  takes_fenced lease owner token (Some hold) few =
      tokened lease token (take_hold moment owner lease (Some hold))
      (takes lease owner (Some hold) few)

  -- a call on a fenced lock
  fences : (key : List ℕ) (call : FencedCall) (object : FencedLock) → Below object.held
      → StillBelow (lease_in (fenced_concern call)) (fenced_call key moment call object).reply
      (fenced_call key moment call object).object.held
  fences key (fenced.Try owner lease) object below =
      leased (λ (l : FencedLock). l.held) lease object
      (take_fenced moment owner lease object.token (live_hold moment object.held)) below
      (takes_fenced lease owner object.token (live_hold moment object.held)
      (below moment (omega arith)))
  fences key (fenced.Unlock owner rest) object below =
      leased (λ (l : FencedLock). l.held) rest object _ below
      (tokened rest object.token
      (give_back_hold (Some (fenced_post key)) moment owner rest (live_hold moment object.held))
      (gives_back rest owner (Some (fenced_post key)) (live_hold moment object.held)
      (below moment (omega arith))))
  fences key (fenced.Renew owner lease) object below =
      leased (λ (l : FencedLock). l.held) lease object _ below
      (tokened lease object.token
      (renew_hold moment owner lease (live_hold moment object.held))
      (renews lease owner (live_hold moment object.held) (below moment (omega arith))))
  fences key fenced.Token object below =
      stays 0 (replies.Count object.token) object.held below

bytes_eq-sym : (a b : List ℕ) → bytes_eq a b ≡ bytes_eq b a
bytes_eq-sym a b =
    same_from_decides (bytes_eq a b) (bytes_eq b a) (bytes_eq-Decides a b)
    (Decides-like (bytes_eq b a) sym sym (bytes_eq-Decides b a))

-- an object of a table after a call on the one of a key
module _ {X : Type 0} (held_in : X → Option Hold) (table : List ℕ → X) (name key : List ℕ)
    (object : X) (peak moment : ℕ) (bound : ℕ) where
  tabled : (bytes_eq name key ≡ true → (m : ℕ) → moment ≤ m
      → deadline_of (live_hold m (held_in object)) ≤ bound)
      → ((m : ℕ) → moment ≤ m → deadline_of (live_hold m (held_in (table name))) ≤ peak)
      → (m : ℕ) → moment ≤ m
      → deadline_of (live_hold m (held_in (put bytes_eq table key object name)))
      ≤ (if bytes_eq name key then bound else peak)
  tabled here there m le =
      subst
      (λ b. deadline_of (live_hold m (held_in (if b then object else table name)))
      ≤ (if bytes_eq name key then bound else peak))
      (bytes_eq-sym name key) (by (bytes_eq name key) refl)
    where
      by : (b : Bool) → bytes_eq name key ≡ b
          → deadline_of (live_hold m (held_in (if b then object else table name)))
          ≤ (if b then bound else peak)
      by true e = here e m le
      by false e = there m le

-- the same object, where the name is the key
same_object_at : {X : Type 0} (held_in : X → Option Hold) (table : List ℕ → X) (name key : List ℕ)
    (peak moment : ℕ) → Below peak moment (held_in (table name)) → bytes_eq name key ≡ true
    → Below peak moment (held_in (table key))
same_object_at held_in table name key peak moment below e =
    subst (λ n. Below peak moment (held_in (table n))) ((bytes_eq-Decides name key).0 e) below

module _ (name : List ℕ) (state : State) (moment peak : ℕ) where
  -- the peak where nobody is told
  abbrev raised : Kind → Op → ℕ
  raised kind op =
      if is_about kind name op
      then max peak (deadline_given moment op (reply_of state.objects moment op)) else peak

  plain_after : (key : List ℕ) (call : Call) → Below peak moment (state.objects.mutexes name)
      → (m : ℕ) → moment ≤ m
      → live_until (objects_after state.objects moment (call_on key call)) kinds.Mutex name m
      ≤ raised kinds.Mutex (call_on key call)
  plain_after key (calls.Lock call) below =
      tabled (λ x. x) state.objects.mutexes name key
      (lock_call key moment call (state.objects.mutexes key)).object peak moment
      (max peak
      (deadline_given moment (call_on key (calls.Lock call))
      (reply_of state.objects moment (call_on key (calls.Lock call)))))
      (λ e. locks peak moment key call (state.objects.mutexes key)
      (same_object_at (λ x. x) state.objects.mutexes name key peak moment below e))
      below
  plain_after key _ below = below

  fenced_after : (key : List ℕ) (call : Call)
      → Below peak moment (state.objects.fenced_locks name).held
      → (m : ℕ) → moment ≤ m
      → live_until (objects_after state.objects moment (call_on key call)) kinds.Fenced name m
      ≤ raised kinds.Fenced (call_on key call)
  fenced_after key (calls.Fenced call) below =
      tabled (λ (l : FencedLock). l.held) state.objects.fenced_locks name key
      (fenced_call key moment call (state.objects.fenced_locks key)).object peak moment
      (max peak
      (deadline_given moment (call_on key (calls.Fenced call))
      (reply_of state.objects moment (call_on key (calls.Fenced call)))))
      (λ e. fences peak moment key call (state.objects.fenced_locks key)
      (same_object_at (λ (l : FencedLock). l.held) state.objects.fenced_locks name key peak moment
      below e))
      below
  fenced_after key _ below = below

-- from this moment on, what is live of an object of such a kind ends by the peak
abbrev EndsBy : Kind → List ℕ → ℕ → Objects → ℕ → Type 0
EndsBy kind name moment objects peak =
    (m : ℕ) → moment ≤ m → live_until objects kind name m ≤ peak

-- a call keeps that
by_call : (kind : Kind) → wakes_one_of_many kind ≡ true → (name : List ℕ) (state : State)
    (moment : ℕ) (op : Op) (peak : ℕ) → EndsBy kind name moment state.objects peak
    → EndsBy kind name moment (objects_after state.objects moment op)
    (peak_by_call kind name state moment op peak)
by_call kind one name state moment op peak ends =
    by (tells kind name (post_of state.objects moment op)) kind one ends
  where
    by : (told : Bool) (k : Kind) → wakes_one_of_many k ≡ true
        → EndsBy k name moment state.objects peak
        → EndsBy k name moment (objects_after state.objects moment op)
        (if told then live_until (objects_after state.objects moment op) k name moment
        else if is_about k name op
        then max peak (deadline_given moment op (reply_of state.objects moment op)) else peak)
    by true kinds.Mutex is below =
        λ m le. live_later moment m ((objects_after state.objects moment op).mutexes name) le
    by true kinds.Fenced is below =
        λ m le.
        live_later moment m ((objects_after state.objects moment op).fenced_locks name).held le
    by false kinds.Mutex is below = plain_after name state moment peak op.name op.call below
    by false kinds.Fenced is below = fenced_after name state moment peak op.name op.call below
    by told kinds.Fair is below = absurd (false≢true is)
    by told kinds.Rw is below = absurd (false≢true is)
    by told kinds.Semaphore is below = absurd (false≢true is)
    by told kinds.Permits is below = absurd (false≢true is)
    by told kinds.Countdown is below = absurd (false≢true is)

by_act : (kind : Kind) → wakes_one_of_many kind ≡ true → (name : List ℕ) (state : State)
    (moment : ℕ) (act : Act) (peak : ℕ) → EndsBy kind name moment state.objects peak
    → EndsBy kind name moment (objects_by state moment act)
    (peak_by_act kind name state moment act peak)
by_act kind one name state moment (acts.Call op) peak ends =
    by_call kind one name state moment op peak ends
by_act kind one name state moment _ peak ends = ends

by_history : (kind : Kind) → wakes_one_of_many kind ≡ true → (name : List ℕ) (entries : List Entry)
    (state : State) (peak : ℕ) → IsLegal state entries
    → EndsBy kind name state.moment state.objects peak
    → EndsBy kind name (after state entries).moment (after state entries).objects
    (peak_after kind name state entries peak)
by_history kind one name [] state peak legal ends = ends
by_history kind one name (entry ∷ entries) state peak legal ends =
    by_history kind one name entries (step state entry)
    (peak_by_act kind name state entry.moment entry.act peak) legal.1
    (by_act kind one name state entry.moment entry.act peak
    (λ m le. ends m (omega (arith, legal.0.in_time, le))))

-- before the first entry nothing is held
nothing_held : (kind : Kind) → wakes_one_of_many kind ≡ true → (name : List ℕ) (last : ℕ)
    → EndsBy kind name 0 (state_at_start last).objects 0
nothing_held kinds.Mutex one name last = λ m le. omega arith
nothing_held kinds.Fair one name last = absurd (false≢true one)
nothing_held kinds.Fenced one name last = λ m le. omega arith
nothing_held kinds.Rw one name last = absurd (false≢true one)
nothing_held kinds.Semaphore one name last = absurd (false≢true one)
nothing_held kinds.Permits one name last = absurd (false≢true one)
nothing_held kinds.Countdown one name last = absurd (false≢true one)

pub end_by_the_peak : (last : ℕ) (entries : List Entry) → IsLegal (state_at_start last) entries
    → EndByThePeak (state_at_start last) entries
end_by_the_peak last entries legal kind name moment one le =
    by_history kind one name entries (state_at_start last) 0 legal (nothing_held kind one name last)
    moment le

-- A call that is refused is told how long the hold lasts.

-- what is live ends later
still_live : (moment : ℕ) (held : Option Hold) (hold : Hold)
    → live_hold moment held ≡ Some hold → moment < hold.deadline
still_live moment None hold e = absurd (cc e)
still_live moment (Some other) hold e = by (nat_lt moment other.deadline) refl e
  where
    by : (b : Bool) → nat_lt moment other.deadline ≡ b
        → (if b then Some other else None) ≡ Some hold → moment < hold.deadline
    by true live f =
        subst (λ (h : Hold). moment < h.deadline) (same_Some other hold f)
        (ltb-true moment other.deadline live)
    by false live f = absurd (cc f)

module _ (moment millis : ℕ) where
  abbrev IsBusy : Reply → Type 0
  IsBusy reply = reply ≡ replies.Busy millis

  -- a lease out of range isn't answered so
  leased_busy : {X : Type 0} (lease : ℕ) (object : X) (outcome : Outcome X) (P : Type 0)
      → (IsBusy outcome.reply → P) → IsBusy (with_lease lease object outcome).reply → P
  leased_busy {X} lease object outcome P then_ = by (is_lease lease)
    where
      by : (b : Bool)
          → IsBusy (if b then outcome else silent_outcome replies.BadLease object).reply → P
      by true = then_
      by false = λ busy. absurd (cc busy)

  take_busy : (lease : ℕ) (owner : ThreadOfClient) (live : Option Hold)
      → ((hold : Hold) → live ≡ Some hold → moment < hold.deadline)
      → IsBusy (take_hold moment owner lease live).reply → moment + millis ≤ deadline_of live
  take_busy lease owner None ends busy = absurd (cc busy)
  take_busy lease owner (Some hold) ends busy =
      by (same_owner hold.owner owner) (hold.count == hold_limit) busy
    where
      by : (mine deep : Bool)
          → IsBusy (if mine then (if deep then silent_outcome replies.TooDeep (Some hold)
          else record {
            reply = replies.Granted;
            object = Some
                (record { owner = owner; count = hold.count + 1; deadline = moment + lease });
            post = None;
          })
          else silent_outcome (replies.Busy (hold.deadline - moment)) (Some hold)).reply
          → moment + millis ≤ hold.deadline
      by true true e = absurd (cc e)
      by true false e = absurd (cc e)
      by false deep e =
          let left : hold.deadline - moment ≡ millis = cc e in
          omega (arith, left, ends hold refl)

  give_back_busy : (post : Option Post) (rest : ℕ) (owner : ThreadOfClient) (live : Option Hold)
      → IsBusy (give_back_hold post moment owner rest live).reply → ⊥
  give_back_busy post rest owner None busy = absurd (cc busy)
  give_back_busy post rest owner (Some hold) busy =
      by (same_owner hold.owner owner) (hold.count == 1) busy
    where
      by : (mine last : Bool)
          → IsBusy (if mine then (if last
          then record { reply = replies.Freed; object = None; post = post }
          else record {
            reply = replies.Kept;
            object = Some
                (record { owner = owner; count = hold.count - 1; deadline = moment + rest });
            post = None;
          })
          else silent_outcome replies.NotHeld (Some hold)).reply → ⊥
      by true true e = absurd (cc e)
      by true false e = absurd (cc e)
      by false last e = absurd (cc e)

  renew_busy : (lease : ℕ) (owner : ThreadOfClient) (live : Option Hold)
      → IsBusy (renew_hold moment owner lease live).reply → ⊥
  renew_busy lease owner None busy = absurd (cc busy)
  renew_busy lease owner (Some hold) busy = by (same_owner hold.owner owner) busy
    where
      by : (mine : Bool)
          → IsBusy (if mine
          then record {
            reply = replies.Renewed;
            object = Some
                (record { owner = owner; count = hold.count; deadline = moment + lease });
            post = None;
          }
          else silent_outcome replies.Lost (Some hold)).reply → ⊥
      by true e = absurd (cc e)
      by false e = absurd (cc e)

  force_busy : (post : Option Post) (live : Option Hold) → IsBusy (end_hold post live).reply → ⊥
  force_busy post None busy = absurd (cc busy)
  force_busy post (Some hold) busy = absurd (cc busy)

  lock_busy : (key : List ℕ) (call : LockCall) (held : Option Hold)
      → IsBusy (lock_call key moment call held).reply
      → moment + millis ≤ deadline_of (live_hold moment held)
  lock_busy key (lock.Try owner lease) held =
      leased_busy lease held (take_hold moment owner lease (live_hold moment held))
      (moment + millis ≤ deadline_of (live_hold moment held))
      (take_busy lease owner (live_hold moment held) (still_live moment held))
  lock_busy key (lock.Unlock owner rest) held =
      leased_busy rest held
      (give_back_hold (Some (lock_post key)) moment owner rest (live_hold moment held))
      (moment + millis ≤ deadline_of (live_hold moment held))
      (λ busy. absurd
      (give_back_busy (Some (lock_post key)) rest owner (live_hold moment held) busy))
  lock_busy key (lock.Renew owner lease) held =
      leased_busy lease held (renew_hold moment owner lease (live_hold moment held))
      (moment + millis ≤ deadline_of (live_hold moment held))
      (λ busy. absurd (renew_busy lease owner (live_hold moment held) busy))
  lock_busy key lock.Force held =
      λ busy. absurd (force_busy (Some (lock_post key)) (live_hold moment held) busy)

  -- a token that is told besides makes no refusal
  token_busy : (token : ℕ) (reply : Reply) → IsBusy (reply_with_token token reply) → IsBusy reply
  token_busy token replies.Granted e = absurd (cc e)
  token_busy token _ e = e

  fenced_busy : (key : List ℕ) (call : FencedCall) (object : FencedLock)
      → IsBusy (fenced_call key moment call object).reply
      → moment + millis ≤ deadline_of (live_hold moment object.held)
  fenced_busy key (fenced.Try owner lease) object =
      leased_busy lease object
      (take_fenced moment owner lease object.token (live_hold moment object.held))
      (moment + millis ≤ deadline_of (live_hold moment object.held))
      (by (live_hold moment object.held) (still_live moment object.held))
    where
      by : (live : Option Hold) → ((hold : Hold) → live ≡ Some hold → moment < hold.deadline)
          → IsBusy (take_fenced moment owner lease object.token live).reply
          → moment + millis ≤ deadline_of live
      by None ends busy = absurd (spent (object.token == token_limit) busy)
        where
          spent : (b : Bool)
              → IsBusy (if b
              then silent_outcome replies.TokensSpent
              (record { held = None; token = object.token })
              else with_token (object.token + 1) (take_hold moment owner lease None)).reply → ⊥
          spent true e = absurd (cc e)
          spent false e = absurd (cc e)
      by (Some hold) ends busy =
          take_busy lease owner (Some hold) ends
          (token_busy object.token (take_hold moment owner lease (Some hold)).reply busy)
  fenced_busy key (fenced.Unlock owner rest) object =
      leased_busy rest object
      (with_token object.token
      (give_back_hold (Some (fenced_post key)) moment owner rest (live_hold moment object.held)))
      (moment + millis ≤ deadline_of (live_hold moment object.held))
      (λ busy. absurd
      (give_back_busy (Some (fenced_post key)) rest owner (live_hold moment object.held)
      (token_busy object.token _ busy)))
  fenced_busy key (fenced.Renew owner lease) object =
      leased_busy lease object
      (with_token object.token (renew_hold moment owner lease (live_hold moment object.held)))
      (moment + millis ≤ deadline_of (live_hold moment object.held))
      (λ busy. absurd
      (renew_busy lease owner (live_hold moment object.held) (token_busy object.token _ busy)))
  fenced_busy key fenced.Token object = λ busy. absurd (cc busy)

  call_busy : (objects : Objects) (key : List ℕ) (call : Call)
      → wakes_one_of_many (kind_of (call_on key call)) ≡ true
      → IsBusy (reply_of objects moment (call_on key call))
      → moment + millis ≤ live_until objects (kind_of (call_on key call)) key moment
  call_busy objects key (calls.Lock call) one = lock_busy key call (objects.mutexes key)
  call_busy objects key (calls.Fenced call) one = fenced_busy key call (objects.fenced_locks key)
  call_busy objects key _ one = absurd (false≢true one)

pub refused_until_the_peak : (last : ℕ) (entries : List Entry)
    → IsLegal (state_at_start last) entries → RefusedUntilThePeak (state_at_start last) entries
refused_until_the_peak last entries legal op moment millis one le busy =
    let lasts = call_busy moment millis (after (state_at_start last) entries).objects op.name op.call
    one busy in
    let ends = end_by_the_peak last entries legal (kind_of op) (name_of op) moment one le in
    omega (arith, lasts, ends)
