-- What is told to stand for a sleeper is what stands: never nothing, and no timer that is too late.
use Rattle.std.proofs.Common.{◌≡◌, ℕ, ◌+◌, ◌≤◌, ◌==◌, nat_lt, min, List, [], ◌∷◌, Bool, true, false, not, ◌||◌, Option, Some, None, refl, ap, sym, ◌∙◌, subst, arith, if◌then◌else◌, ◌⊎◌, inl, inr}
use Rattle.std.specs.List.{list_any}
use Rattle.std.proofs.lemmas.Bool.{and_from, or_cases, or_left, or_right, false≢true, eqb-true, lt-ltb, ltb-true, ltb-false}
use Rattle.std.proofs.lemmas.Option.{same_Some}
use Rattle.lr_limits.specs.Limits.{thread_limit}
use Rattle.lr_names.specs.Channel.{ChannelOf, channel_wakes}
use Rattle.lr_names.specs.Owner.{ThreadOfClient}
use Rattle.lr_names.specs.declared.kind.Wakes.TheVariants.{All}
use Rattle.lr_objects.specs.Kinds.{call_of, call_kind}
use Rattle.lr_objects.specs.declared.kinds.Function.{Function}
use Rattle.lr_objects.specs.declared.kinds.Function.TheVariants as functions
use Rattle.lr_objects.specs.declared.want.Want.{Want}
use Rattle.lr_waiting.specs.declared.stand.Stand.TheVariants as stands
use Rattle.lr_waiting.specs.declared.waiter.Refusal.{Refusal}
use Rattle.lr_waiting.specs.declared.waiter.Stage.{Stage}
use Rattle.lr_waiting.specs.declared.waiter.Stage.TheVariants.{Asleep}
use Rattle.lr_waiting.specs.declared.waiter.Waiter.{Waiter}
use Rattle.lr_model.specs.Answer.{Objects}
use Rattle.lr_model.specs.Board.{same_channel, Connection}
use Rattle.lr_model.specs.History.{State}
use Rattle.lr_model.proofs.Numbers.{below_has}
use Rattle.lr_model.proofs.SameChannel.{same_self}
use Rattle.lr_waiting.specs.Session.{channel_for, channel_in, owner_in}
use Rattle.lr_waiting.specs.Client.{Client, waiter_in}
use Rattle.lr_waiting.specs.Stand.{waits_at, in_flight, is_awake, due_at, due_of, moment_due, is_refused, would_wait, stand_of_all, lesser, least_of, threads_with, least_due, timer_or_nobody, stand_of_one, stand_by, stand_at, stand_with}
use Rattle.lr_wakeups.specs.Joining.{FitsStage, PlacedWith}
use Rattle.lr_wakeups.specs.Standing.{is_blocked_at, blocked_with, is_blocked, Stands, ByMessage, ByPermit, ByAwake, ByTimer, StandsWithin, NoLostWakeup}
use Rattle.lr_wakeups.specs.Reached.{Present, IsDueBy, IsRefusedUntil, WaitsFor, WaitsIn, ReachedWith, seen_at, timer_bound, StandsBy, NoLostBroadcast}
use Rattle.lr_wakeups.specs.Facts.{Facts}
use Rattle.lr_wakeups.proofs.FairChannels.{wakes_one}
use Rattle.lr_wakeups.proofs.Joining.{placed_was}

-- what passes and is among these
any_among : (test : ℕ → Bool) (t : ℕ) → test t ≡ true → (xs : List ℕ)
    → list_any (λ other. other == t) xs ≡ true → list_any test xs ≡ true
any_among test t passes [] among = absurd (false≢true among)
any_among test t passes (x ∷ xs) among =
    by (or_cases (x == t) (list_any (λ other. other == t) xs) among)
    (any_among test t passes xs)
  where
    by : ((x == t) ≡ true) ⊎ (list_any (λ other. other == t) xs ≡ true)
        → (list_any (λ other. other == t) xs ≡ true → list_any test xs ≡ true)
        → (test x || list_any test xs) ≡ true
    by (inl same) rest =
        or_left (test x) (list_any test xs) (ap test (eqb-true x t same) ∙ passes)
    by (inr later) rest = or_right (test x) (list_any test xs) (rest later)

-- a moment that is at most another
abbrev AtMost : ℕ → Option ℕ → Type 0
AtMost m least = (k : ℕ) × (least ≡ Some k) × (k ≤ m)

-- the least of some moments is at most each of them
least_among : (moment : ℕ → Option ℕ) (t m : ℕ) → moment t ≡ Some m → (xs : List ℕ)
    → list_any (λ other. other == t) xs ≡ true → AtMost m (least_of moment xs)
least_among moment t m is [] among = absurd (false≢true among)
least_among moment t m is (x ∷ xs) among =
    by (or_cases (x == t) (list_any (λ other. other == t) xs) among)
    (least_among moment t m is xs)
  where
    first : (rest : Option ℕ) → AtMost m (lesser (Some m) rest)
    first None = (m, refl, omega arith)
    first (Some r) = (min m r, refl, omega arith)

    later : (here rest : Option ℕ) → AtMost m rest → AtMost m (lesser here rest)
    later None rest least = least
    later (Some h) rest least =
        (min h least.0, ap (lesser (Some h)) least.1, omega (arith, least.2))

    by : ((x == t) ≡ true) ⊎ (list_any (λ other. other == t) xs ≡ true)
        → (list_any (λ other. other == t) xs ≡ true → AtMost m (least_of moment xs))
        → AtMost m (lesser (moment x) (least_of moment xs))
    by (inl same) rest =
        subst (λ d. AtMost m (lesser d (least_of moment xs)))
        (sym (ap moment (eqb-true x t same) ∙ is)) (first (least_of moment xs))
    by (inr more) rest = later (moment x) (least_of moment xs) (rest more)

-- a thread within the limit is among all threads
among_all : (t : ℕ) → t ≤ thread_limit
    → list_any (λ other. other == t) (threads_with (λ thread. true)) ≡ true
among_all t within =
    below_has (thread_limit + 1) (λ thread. true) t (omega (arith, within))

-- what stands is told
pub told_to_stand : (peak : ℕ) (channel : ChannelOf) (client : Client) (connection : Connection)
    → Stands peak channel client connection
    → StandsWithin peak (stand_of_one channel connection.outbox client)
told_to_stand peak channel client connection stood =
    by_message (in_flight channel connection.outbox) refl
  where
    no_message : in_flight channel connection.outbox ≡ false
        → nat_lt 0 (client.session.latches.entries channel).permits ≡ false
        → list_any (is_awake channel client) (threads_with (λ thread. true)) ≡ false
        → Stands peak channel client connection
        → StandsWithin peak (timer_or_nobody (least_due channel client))
    no_message quiet no_permit asleep (ByMessage flies) =
        absurd (false≢true (sym quiet ∙ flies))
    no_message quiet no_permit asleep (ByPermit some) =
        absurd
        (false≢true
        (sym no_permit ∙ lt-ltb 0 (client.session.latches.entries channel).permits some))
    no_message quiet no_permit asleep (ByAwake t within awake) =
        absurd
        (false≢true
        (sym asleep
        ∙ any_among (is_awake channel client) t awake (threads_with (λ thread. true))
        (among_all t within)))
    no_message quiet no_permit asleep (ByTimer t m within due few) =
        let least = least_among (due_of channel client) t m due (threads_with (λ thread. true))
        (among_all t within) in
        let bound : least.0 ≤ peak = omega (arith, least.2, few) in
        subst (λ d. StandsWithin peak (timer_or_nobody d)) (sym least.1) bound

    by_awake : in_flight channel connection.outbox ≡ false
        → nat_lt 0 (client.session.latches.entries channel).permits ≡ false
        → (b : Bool)
        → list_any (is_awake channel client) (threads_with (λ thread. true)) ≡ b
        → StandsWithin peak
        (if b then stands.Awake else timer_or_nobody (least_due channel client))
    by_awake quiet no_permit true e = tt
    by_awake quiet no_permit false e = no_message quiet no_permit e stood

    by_permit : in_flight channel connection.outbox ≡ false → (b : Bool)
        → nat_lt 0 (client.session.latches.entries channel).permits ≡ b
        → StandsWithin peak
        (if b then stands.Permit
        else if list_any (is_awake channel client) (threads_with (λ thread. true)) then stands.Awake
        else timer_or_nobody (least_due channel client))
    by_permit quiet true e = tt
    by_permit quiet false e =
        by_awake quiet e
        (list_any (is_awake channel client) (threads_with (λ thread. true))) refl

    by_message : (b : Bool) → in_flight channel connection.outbox ≡ b
        → StandsWithin peak
        (if b then stands.Message
        else if nat_lt 0 (client.session.latches.entries channel).permits then stands.Permit
        else if list_any (is_awake channel client) (threads_with (λ thread. true)) then stands.Awake
        else timer_or_nobody (least_due channel client))
    by_message true e = tt
    by_message false e =
        by_permit e (nat_lt 0 (client.session.latches.entries channel).permits) refl

never : {A : Type 0} (x : A) → None ≡ Some x → ⊥
never x e = absurd (cc e)

-- so no wakeup is lost
pub no_lost_wakeup : (n : ℕ) (present : Present) (client : Client) (connection : Connection)
    → Facts n present client connection → NoLostWakeup present.peak client connection
no_lost_wakeup n present client connection facts state now thread waiter stand within was one told =
    by_stage waiter.stage refl (ap (stand_with state now connection.outbox client thread) (sym was) ∙ told)
  where
    blocked : (refusal : Refusal) → waiter.stage ≡ Asleep refusal
        → is_blocked (channel_in client.session thread waiter) client thread ≡ true
    blocked refusal e =
        let placed : PlacedWith client.session thread (Some waiter) =
        subst (PlacedWith client.session thread) was (facts.placed thread within).placed in
        let inside : waiter.registered ≡ true =
        subst (λ s. FitsStage s waiter.registered) e placed.fits in
        ap (blocked_with (channel_in client.session thread waiter) client thread) was
        ∙ and_from (waits_at (channel_in client.session thread waiter) client thread waiter)
        (is_blocked_at waiter.stage (client.replies thread) waiter.want.function)
        (and_from waiter.registered
        (same_channel (channel_in client.session thread waiter)
        (channel_in client.session thread waiter))
        inside (same_self (channel_in client.session thread waiter)))
        (ap (λ s. is_blocked_at s (client.replies thread) waiter.want.function) e)

    by_stage : (stage : Stage) → waiter.stage ≡ stage
        → stand_at state now connection.outbox client thread waiter stage ≡ Some stand
        → StandsWithin (present.peak (channel_in client.session thread waiter)) stand
    by_stage (Asleep refusal) e f =
        subst (StandsWithin (present.peak (channel_in client.session thread waiter)))
        (ap
        (λ w. stand_by w state now connection.outbox client thread waiter refusal)
        (sym (wakes_one (channel_in client.session thread waiter).kind one))
        ∙ same_Some _ stand f)
        (told_to_stand (present.peak (channel_in client.session thread waiter))
        (channel_in client.session thread waiter) client connection
        ((facts.covered (channel_in client.session thread waiter)).stands one thread within
        (blocked refusal e)))
    by_stage _ e f = absurd (never stand f)

-- Where a message wakes all.

-- by a timer of a read-write lock
timer_by_peak : (peak : ℕ) (due : Option ℕ) → IsDueBy peak due
    → StandsBy (Some peak) (timer_or_nobody due)
timer_by_peak peak None due = due
timer_by_peak peak (Some moment) due = due

-- who isn't refused now is due by now
timer_by_now : (objects : Objects) (now : ℕ) (owner : ThreadOfClient) (want : Want)
    (due : Option ℕ) → IsRefusedUntil objects now owner want due
    → is_refused objects now owner want ≡ false → StandsBy (Some now) (timer_or_nobody due)
timer_by_now objects now owner want None waits free =
    false≢true (sym free ∙ waits.refused now (omega arith) tt)
timer_by_now objects now owner want (Some moment) waits free = by (nat_lt now moment) refl
  where
    by : (before : Bool) → nat_lt now moment ≡ before → moment ≤ now
    by true e =
        absurd (false≢true (sym free ∙ waits.refused now (omega arith) (ltb-true now moment e)))
    by false e = ltb-false now moment e

-- what waits for one that isn't refused now is a timer
waits_by_timer : (function : Function) (present : Present) (owner other : ThreadOfClient)
    (want : Want) (due : Option ℕ)
    → channel_wakes (call_kind (call_of function want other 0 false)) ≡ All
    → WaitsFor function present owner want due
    → is_refused present.objects present.now owner want ≡ false
    → StandsBy
    (timer_bound (call_kind (call_of function want other 0 false))
    (present.peak (channel_for owner want)) present.now)
    (timer_or_nobody due)
waits_by_timer (functions.Lock f) present owner other want due all waits free = absurd (cc all)
waits_by_timer (functions.Fenced f) present owner other want due all waits free =
    absurd (cc all)
waits_by_timer (functions.Fair f) present owner other want due all waits free = absurd (cc all)
waits_by_timer (functions.ReadWrite f) present owner other want due all waits free =
    timer_by_peak (present.peak (channel_for owner want)) due waits
waits_by_timer (functions.Permits f) present owner other want due all waits free =
    timer_by_now present.objects present.now owner want due waits free
waits_by_timer (functions.Semaphore f) present owner other want due all waits free =
    absurd (false≢true (sym free ∙ waits.1.refused present.now (omega arith) tt))
waits_by_timer (functions.Countdown f) present owner other want due all waits free =
    absurd (false≢true (sym free ∙ waits.1.refused present.now (omega arith) tt))

-- a bound doesn't matter for what isn't a timer
held_stands : (bound : Option ℕ) → StandsBy bound stands.Held
held_stands None = tt
held_stands (Some moment) = tt

message_stands : (bound : Option ℕ) → StandsBy bound stands.Message
message_stands None = tt
message_stands (Some moment) = tt

broadcast_stands : (bound : Option ℕ) → StandsBy bound stands.Broadcast
broadcast_stands None = tt
broadcast_stands (Some moment) = tt

-- a thread that sleeps on such a channel
module _ (n : ℕ) (present : Present) (client : Client) (connection : Connection)
    (facts : Facts n present client connection) (thread : ℕ) (within : thread ≤ thread_limit)
    (waiter : Waiter) (was : waiter_in client thread ≡ Some waiter) (refusal : Refusal)
    (asleep : waiter.stage ≡ Asleep refusal)
    (all : channel_wakes (channel_in client.session thread waiter).kind ≡ All) where
  -- its channel, and by when its timer fires
  abbrev own : ChannelOf
  own = channel_in client.session thread waiter

  abbrev bound : Option ℕ
  bound = timer_bound own.kind (present.peak own) present.now

  inside : waiter.registered ≡ true
  inside =
      subst (λ s. FitsStage s waiter.registered) asleep
      (placed_was thread None client client within facts.placed waiter was).fits

  reached : ReachedWith present client.session.client client.session.latches.entries
      connection.outbox thread (client.replies thread) (Some waiter)
  reached =
      subst
      (ReachedWith present client.session.client client.session.latches.entries
      connection.outbox thread (client.replies thread))
      was (facts.reached thread within)

  by_timer : is_refused present.objects present.now (owner_in client.session thread) waiter.want
      ≡ false
      → in_flight own connection.outbox ≡ false
      → (client.session.latches.entries own).broadcast ≡ refusal.seen
      → StandsBy bound (timer_or_nobody (moment_due refusal.due))
  by_timer free silent now =
      waits_by_timer waiter.want.function present (owner_in client.session thread)
      (owner_in client.session thread) waiter.want (moment_due refusal.due) all
      (subst
      (λ s. WaitsIn present (owner_in client.session thread) waiter.want
      (due_at s (client.replies thread)))
      asleep
      (reached.waits inside all
      (ap (λ s. is_blocked_at s (client.replies thread) waiter.want.function) asleep) silent
      (now ∙ sym (ap seen_at asleep))))
      free

  by_broadcast : is_refused present.objects present.now (owner_in client.session thread)
      waiter.want ≡ false
      → in_flight own connection.outbox ≡ false → (heard : Bool)
      → ((client.session.latches.entries own).broadcast == refusal.seen) ≡ heard
      → StandsBy bound
      (if not heard then stands.Broadcast else timer_or_nobody (moment_due refusal.due))
  by_broadcast free silent false e = broadcast_stands bound
  by_broadcast free silent true e =
      by_timer free silent
      (eqb-true (client.session.latches.entries own).broadcast refusal.seen e)

  by_message : is_refused present.objects present.now (owner_in client.session thread)
      waiter.want ≡ false
      → (flies : Bool) → in_flight own connection.outbox ≡ flies
      → StandsBy bound
      (if flies then stands.Message
      else if not ((client.session.latches.entries own).broadcast == refusal.seen)
      then stands.Broadcast
      else timer_or_nobody (moment_due refusal.due))
  by_message free true e = message_stands bound
  by_message free false e =
      by_broadcast free e ((client.session.latches.entries own).broadcast == refusal.seen) refl

  by_held : (waits : Bool)
      → is_refused present.objects present.now (owner_in client.session thread) waiter.want
      ≡ waits
      → StandsBy bound
      (if waits then stands.Held
      else if in_flight own connection.outbox then stands.Message
      else if not ((client.session.latches.entries own).broadcast == refusal.seen)
      then stands.Broadcast
      else timer_or_nobody (moment_due refusal.due))
  by_held true e = held_stands bound
  by_held false e = by_message e (in_flight own connection.outbox) refl

  told_of_all : (state : State) → state.objects ≡ present.objects
      → StandsBy bound
      (stand_of_all state present.now connection.outbox client thread waiter refusal)
  told_of_all state same =
      by_held (would_wait state present.now client thread waiter)
      (ap
      (λ objects. is_refused objects present.now (owner_in client.session thread) waiter.want)
      (sym same))

-- so no wakeup is lost
pub no_lost_broadcast : (n : ℕ) (present : Present) (client : Client) (connection : Connection)
    → Facts n present client connection → NoLostBroadcast present client connection
no_lost_broadcast n present client connection facts state thread waiter stand same within was all told =
    by_stage waiter.stage refl
    (ap (stand_with state present.now connection.outbox client thread) (sym was) ∙ told)
  where
    by_stage : (stage : Stage) → waiter.stage ≡ stage
        → stand_at state present.now connection.outbox client thread waiter stage ≡ Some stand
        → StandsBy
        (timer_bound (channel_in client.session thread waiter).kind
        (present.peak (channel_in client.session thread waiter)) present.now)
        stand
    by_stage (Asleep refusal) e f =
        subst
        (StandsBy
        (timer_bound (channel_in client.session thread waiter).kind
        (present.peak (channel_in client.session thread waiter)) present.now))
        (ap
        (λ w. stand_by w state present.now connection.outbox client thread waiter refusal)
        (sym all)
        ∙ same_Some _ stand f)
        (told_of_all n present client connection facts thread within waiter was refusal e all state
        same)
    by_stage _ e f = absurd (never stand f)
