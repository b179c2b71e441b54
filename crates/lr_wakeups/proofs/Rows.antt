-- All facts after each row of a thread.
use Rattle.std.proofs.Common.{◌≡◌, ℕ, suc, ◌<◌, ◌≤◌, ◌^◌, Bool, true, false, not, Option, Some, None, is_some, refl, ap, sym, ◌∙◌, subst, arith, if◌then◌else◌}
use Rattle.std.specs.Option.{option_map}
use Rattle.std.proofs.lemmas.Bool.{and_parts, false≢true}
use Rattle.std.proofs.lemmas.Option.{same_Some}
use Rattle.lr_limits.specs.Limits.{thread_limit}
use Rattle.lr_objects.specs.Reply.{blocks}
use Rattle.lr_objects.specs.declared.kinds.Function.{Function}
use Rattle.lr_objects.specs.declared.kinds.Function.TheVariants as functions
use Rattle.lr_objects.specs.declared.reply.Reply.{Reply}
use Rattle.lr_objects.specs.declared.reply.Reply.TheVariants as replies
use Rattle.lr_objects.specs.declared.want.Mode.{Mode}
use Rattle.lr_objects.specs.declared.want.Want.{Want}
use Rattle.lr_waiting.specs.declared.latch.Checked.{Checked}
use Rattle.lr_waiting.specs.declared.latch.Checked.TheVariants as checks
use Rattle.lr_waiting.specs.declared.latch.Woken.{Woken}
use Rattle.lr_waiting.specs.declared.latch.Woken.TheVariants as wakings
use Rattle.lr_waiting.specs.declared.waiter.Asking.{Asking}
use Rattle.lr_waiting.specs.declared.waiter.Refusal.{Refusal}
use Rattle.lr_waiting.specs.declared.waiter.Stage.{Stage}
use Rattle.lr_waiting.specs.declared.waiter.Stage.TheVariants.{Fresh, Asked, Joining, Ready, Refused, Asleep, Leaving}
use Rattle.lr_waiting.specs.declared.waiter.Waiter.{Waiter}
use Rattle.lr_waiting.specs.declared.watch.WatchKey.{WatchKey}
use Rattle.lr_model.specs.Board.{Connection}
use Rattle.lr_waiting.specs.Latch.{is_subscribed, is_due, next_count, take_permit_at, register_in, register_at, leave_at, checked_in, woken_in}
use Rattle.lr_waiting.specs.Watchdog.{Watchdog}
use Rattle.lr_waiting.specs.Session.{Session, with_watchdog, owner_in, with_waiter, with_stage, with_ticket, with_latches, without_waiter, of_waiter, begin_at, begin_row, new_waiter, ask_at, ask_row, asking_for, leaving_want, leaving_function, may_wait, waits_for, channel_in, entry_for, key_in, is_joining_at, due_after, watch_begun, watch_ended, watched_by, refused, registered, take_at, take_row, checked, check_at, check_row, woken, wake_at, wake_row, fire_at, fire_row, given_up, quit, quit_at, quit_row}
use Rattle.lr_waiting.specs.Client.{Client, waiter_in, client_row, with_reply, asked_at, asked_by, asked_of, take_with, take_reply}
use Rattle.lr_wakeups.specs.Joining.{FitsStage, gives_up_at}
use Rattle.lr_wakeups.specs.Queued.{IsLeftQueued}
use Rattle.lr_wakeups.specs.Answered.{is_asked_at}
use Rattle.lr_wakeups.specs.Standing.{IsInTime}
use Rattle.lr_wakeups.specs.Reached.{Present, IsLeftWaiting}
use Rattle.lr_wakeups.specs.Facts.{Facts}
use Rattle.lr_wakeups.proofs.LatchFacts.{latch_facts_later}
use Rattle.lr_wakeups.proofs.Threads.{changes_waiter, changes_both}
use Rattle.lr_wakeups.proofs.Joining.{placed_was}
use Rattle.lr_wakeups.proofs.Answered.{no_reply}
use Rattle.lr_wakeups.proofs.ThreadSteps.{latch_facts, begun, awoken, permitted, slept, gave_up, answered, refused_again, ended, left, registers}

never : {A : Type 0} (x : A) → None ≡ Some x → ⊥
never x e = absurd (cc e)

-- there may be more orders
pub facts_later : (n : ℕ) (present : Present) (client : Client) (connection : Connection)
    → Facts n present client connection → Facts (suc n) present client connection
facts_later n present client connection facts = record {
  accounted =
      (latch_facts_later n client.session.latches connection
      (latch_facts n present client connection facts)).accounted;
  matched = facts.matched;
  bounded = facts.bounded;
  counted = facts.counted;
  placed = facts.placed;
  answered = facts.answered;
  covered = facts.covered;
  few = λ q. omega (arith, facts.few q);
  reached = facts.reached;
  queued = facts.queued;
}

-- a row that applies
pub applies : (row : Session → Option Session) (client after : Client) (P : Client → Type 0)
    → ((session : Session) → row client.session ≡ Some session
    → P (record client { session = session }))
    → client_row row client ≡ Some after → P after
applies row client after P then_ applied = by (row client.session) refl applied
  where
    by : (found : Option Session) → row client.session ≡ found
        → option_map (λ session. record client { session = session }) found ≡ Some after → P after
    by None e f = absurd (never after f)
    by (Some session) e f =
        subst P (same_Some (record client { session = session }) after f) (then_ session e)

-- one of a thread that has a request
of_request : (row : Waiter → Option Session) (client : Client) (thread : ℕ) (session : Session)
    (P : Type 0)
    → ((waiter : Waiter) → waiter_in client thread ≡ Some waiter → row waiter ≡ Some session → P)
    → of_waiter row (waiter_in client thread) ≡ Some session → P
of_request row client thread session P then_ applied = by (waiter_in client thread) refl applied
  where
    by : (found : Option Waiter) → waiter_in client thread ≡ found
        → of_waiter row found ≡ Some session → P
    by None e f = absurd (never session f)
    by (Some waiter) e f = then_ waiter e f

-- the watches that a reply changes: nothing else
watched : (session : Session) (asking : Asking) (key : Option WatchKey) (P : Session → Type 0)
    → ((watchdog : Watchdog) → P (with_watchdog watchdog session))
    → (reply : Reply) → P (watched_by reply asking key session)
watched session asking key P then_ = by
  where
    same : P session
    same = then_ session.watchdog

    begins : (k : Option WatchKey) → P (watch_begun asking.at k session)
    begins None = same
    begins (Some k) = then_ _

    ends : (k : Option WatchKey) → P (watch_ended k session)
    ends None = same
    ends (Some k) = then_ _

    granted : (b : Bool) → P (if b then watch_begun asking.at key session else session)
    granted true = begins key
    granted false = same

    by : (reply : Reply) → P (watched_by reply asking key session)
    by replies.Granted = granted asking.watched
    by (replies.GrantedToken token) = granted asking.watched
    by replies.Freed = ends key
    by replies.NotHeld = ends key
    by _ = same

module _ (n : ℕ) (present : Present) (client : Client) (connection : Connection)
    (facts : Facts n present client connection) (thread : ℕ) (within : thread ≤ thread_limit) where
  -- the facts of a client with this session
  abbrev With : Session → Type 0
  With session = Facts n present (record client { session = session }) connection

  reached : (now session : Session) → With now → Some now ≡ Some session → With session
  reached now session here e = subst With (same_Some now session e) here

  -- begin
  pub facts_begin : (mode : Mode) (want : Want) (after : Client)
      → client_row (begin_row thread mode want) client ≡ Some after
      → Facts n present after connection
  facts_begin mode want after =
      applies (begin_row thread mode want) client after (λ c. Facts n present c connection)
      (λ session e. by_cut client.session.is_cut session e)
    where
      by_found : (found : Option Waiter) → waiter_in client thread ≡ found → (session : Session)
          → begin_at thread mode want client.session found ≡ Some session → With session
      by_found (Some waiter) e session f = absurd (never session f)
      by_found None e session f =
          reached
          (with_waiter thread (Some (new_waiter mode want (next_count client.session.turn)))
          (record client.session { turn = next_count client.session.turn }))
          session
          (begun n present client connection facts thread within
          (new_waiter mode want (next_count client.session.turn)) (next_count client.session.turn)
          e refl refl) f

      by_cut : (cut : Bool) → (session : Session)
          → (if cut then None
          else begin_at thread mode want client.session (waiter_in client thread)) ≡ Some session
          → With session
      by_cut true session f = absurd (never session f)
      by_cut false session f = by_found (waiter_in client thread) refl session f

  -- ask
  pub facts_ask : (moment : ℕ) (after : Client)
      → client_row (ask_row thread moment) client ≡ Some after → Facts n present after connection
  facts_ask moment after =
      applies (ask_row thread moment) client after (λ c. Facts n present c connection)
      (λ session e.
      of_request (λ waiter. ask_at thread moment client.session waiter waiter.stage) client thread
      session (With session) (λ waiter was f. by waiter was waiter.stage refl session f) e)
    where
      asks : (waiter : Waiter) → waiter_in client thread ≡ Some waiter → (want : Want)
          → (gives_up_at (Asked (asking_for thread moment want waiter client.session))
          waiter.want.function ≡ false
          → gives_up_at waiter.stage waiter.want.function ≡ false)
          → is_joining_at waiter.stage ≡ false → is_asked_at waiter.stage ≡ false
          → With (with_stage thread waiter
          (Asked (asking_for thread moment want waiter client.session)) client.session)
      asks waiter was want stays old not_asked =
          awoken n present client connection facts thread within waiter was
          (Asked (asking_for thread moment want waiter client.session)) client.session.turn tt
          (λ asked. (stays asked, sym old)) not_asked refl (omega arith)

      -- what leaves asks to leave
      leaves : (turn : ℕ) (want : Want) (waiter : Waiter) (function : Function)
          → want.function ≡ function
          → gives_up_at
          (Asked
          (asking_for thread moment (leaving_want want (leaving_function function)) waiter
          client.session))
          function ≡ false
          → gives_up_at (Leaving turn) function ≡ false
      leaves turn want waiter (functions.Fair f) is asked = absurd (false≢true (sym asked))
      leaves turn want waiter _ is asked = refl

      by : (waiter : Waiter) → waiter_in client thread ≡ Some waiter → (stage : Stage)
          → waiter.stage ≡ stage → (session : Session)
          → ask_at thread moment client.session waiter stage ≡ Some session → With session
      by waiter was (Fresh turn) e session f =
          reached _ session
          (asks waiter was waiter.want (λ asked. ap (λ s. gives_up_at s waiter.want.function) e)
          (ap is_joining_at e) (ap is_asked_at e)) f
      by waiter was (Ready turn) e session f =
          reached _ session
          (asks waiter was waiter.want (λ asked. ap (λ s. gives_up_at s waiter.want.function) e)
          (ap is_joining_at e) (ap is_asked_at e)) f
      by waiter was (Leaving turn) e session f =
          reached _ session
          (asks waiter was (leaving_want waiter.want (leaving_function waiter.want.function))
          (λ asked.
          ap (λ s. gives_up_at s waiter.want.function) e
          ∙ leaves turn waiter.want waiter waiter.want.function refl asked)
          (ap is_joining_at e) (ap is_asked_at e)) f
      by waiter was _ e session f = absurd (never session f)

  -- a reply comes: the server has executed the call
  pub facts_answered : (asking : Asking) (reply : Reply) → asked_of client thread ≡ Some asking
      → ((waiter : Waiter) → waiter_in client thread ≡ Some waiter
      → IsInTime present.peak client thread waiter asking reply)
      → ((waiter : Waiter) → waiter_in client thread ≡ Some waiter
      → IsLeftWaiting present (owner_in client.session thread) waiter.want asking.at reply)
      → ((waiter : Waiter) → waiter_in client thread ≡ Some waiter
      → IsLeftQueued present (owner_in client.session thread) waiter asking reply)
      → Facts n present (with_reply thread (Some reply) client) connection
  facts_answered asking reply asked in_time waits left =
      by_found (waiter_in client thread) refl (client.replies thread) asked
    where
      by_stage : (waiter : Waiter) → waiter_in client thread ≡ Some waiter → (stage : Stage)
          → waiter.stage ≡ stage → (old : Option Reply) → asked_at stage old ≡ Some asking
          → Facts n present (with_reply thread (Some reply) client) connection
      by_stage waiter was (Asked other) e None f =
          answered n present client connection facts thread within waiter was asking reply
          (e ∙ ap Asked (same_Some other asking f)) (in_time waiter was) (waits waiter was)
          (left waiter was)
      by_stage waiter was _ e old f = absurd (never asking f)

      by_found : (found : Option Waiter) → waiter_in client thread ≡ found
          → (old : Option Reply) → asked_by found old ≡ Some asking
          → Facts n present (with_reply thread (Some reply) client) connection
      by_found None e old f = absurd (never asking f)
      by_found (Some waiter) e old f = by_stage waiter e waiter.stage refl old f

  -- what a request that was refused is like
  inside_refused : (waiter : Waiter) → waiter_in client thread ≡ Some waiter → (refusal : Refusal)
      → waiter.stage ≡ Refused refusal → waiter.registered ≡ true
  inside_refused waiter was refusal e =
      subst (λ s. FitsStage s waiter.registered) e
      (placed_was thread None client client within facts.placed waiter was).fits

  inside_asleep : (waiter : Waiter) → waiter_in client thread ≡ Some waiter → (refusal : Refusal)
      → waiter.stage ≡ Asleep refusal → waiter.registered ≡ true
  inside_asleep waiter was refusal e =
      subst (λ s. FitsStage s waiter.registered) e
      (placed_was thread None client client within facts.placed waiter was).fits

  module _ (waiter : Waiter) (was : waiter_in client thread ≡ Some waiter)
      (inside : waiter.registered ≡ true)
      (stays : gives_up_at waiter.stage waiter.want.function ≡ false)
      (old : is_joining_at waiter.stage ≡ false)
      (not_asked : is_asked_at waiter.stage ≡ false) where
    -- it may ask once more
    readied : With (with_ticket thread waiter Ready client.session)
    readied =
        awoken n present client connection facts thread within waiter was
        (Ready (next_count client.session.turn)) (next_count client.session.turn) inside
        (λ asked. (stays, sym old)) not_asked refl (omega arith)

    readied_by_permit : With (with_ticket thread waiter Ready
        (with_latches
        (take_permit_at (channel_in client.session thread waiter) client.session.latches)
        client.session))
    readied_by_permit =
        permitted n present client connection facts thread within waiter was
        (Ready (next_count client.session.turn)) (next_count client.session.turn) inside inside
        (λ asked. (stays, sym old)) not_asked refl (omega arith)

  -- check
  pub facts_check : (now : ℕ) (after : Client)
      → client_row (check_row thread now) client ≡ Some after → Facts n present after connection
  facts_check now after =
      applies (check_row thread now) client after (λ c. Facts n present c connection)
      (λ session e.
      of_request (λ waiter. check_at thread now client.session waiter waiter.stage) client thread
      session (With session) (λ waiter was f. by waiter was waiter.stage refl session f) e)
    where
      finds : (waiter : Waiter) → waiter_in client thread ≡ Some waiter → (refusal : Refusal)
          → waiter.stage ≡ Refused refusal → (found : Checked)
          → With (checked thread waiter refusal client.session found)
      finds waiter was refusal e checks.Sleep =
          slept n present client connection facts thread within waiter was refusal e
      finds waiter was refusal e checks.Permit =
          readied_by_permit waiter was (inside_refused waiter was refusal e)
          (ap (λ s. gives_up_at s waiter.want.function) e) (ap is_joining_at e)
          (ap is_asked_at e)
      finds waiter was refusal e checks.Broadcast =
          readied waiter was (inside_refused waiter was refusal e)
          (ap (λ s. gives_up_at s waiter.want.function) e) (ap is_joining_at e)
          (ap is_asked_at e)
      finds waiter was refusal e checks.Timer =
          readied waiter was (inside_refused waiter was refusal e)
          (ap (λ s. gives_up_at s waiter.want.function) e) (ap is_joining_at e)
          (ap is_asked_at e)

      by : (waiter : Waiter) → waiter_in client thread ≡ Some waiter → (stage : Stage)
          → waiter.stage ≡ stage → (session : Session)
          → check_at thread now client.session waiter stage ≡ Some session → With session
      by waiter was (Refused refusal) e session f =
          reached _ session
          (finds waiter was refusal e
          (checked_in (entry_for client.session thread waiter) refusal.seen refusal.due now)) f
      by waiter was _ e session f = absurd (never session f)

  -- wake
  pub facts_wake : (after : Client) → client_row (wake_row thread) client ≡ Some after
      → Facts n present after connection
  facts_wake after =
      applies (wake_row thread) client after (λ c. Facts n present c connection)
      (λ session e.
      of_request (λ waiter. wake_at thread client.session waiter waiter.stage) client thread session
      (With session) (λ waiter was f. by waiter was waiter.stage refl session f) e)
    where
      finds : (waiter : Waiter) → waiter_in client thread ≡ Some waiter → (refusal : Refusal)
          → waiter.stage ≡ Asleep refusal → (found : Woken) → (session : Session)
          → woken thread waiter client.session found ≡ Some session → With session
      finds waiter was refusal e wakings.NotYet session f = absurd (never session f)
      finds waiter was refusal e wakings.Permit session f =
          reached _ session
          (readied_by_permit waiter was (inside_asleep waiter was refusal e)
          (ap (λ s. gives_up_at s waiter.want.function) e) (ap is_joining_at e)
          (ap is_asked_at e)) f
      finds waiter was refusal e wakings.Broadcast session f =
          reached _ session
          (readied waiter was (inside_asleep waiter was refusal e)
          (ap (λ s. gives_up_at s waiter.want.function) e) (ap is_joining_at e)
          (ap is_asked_at e)) f

      by : (waiter : Waiter) → waiter_in client thread ≡ Some waiter → (stage : Stage)
          → waiter.stage ≡ stage → (session : Session)
          → wake_at thread client.session waiter stage ≡ Some session → With session
      by waiter was (Asleep refusal) e session f =
          finds waiter was refusal e
          (woken_in (entry_for client.session thread waiter) refusal.seen) session f
      by waiter was _ e session f = absurd (never session f)

  -- fire
  pub facts_fire : (now : ℕ) (after : Client)
      → client_row (fire_row thread now) client ≡ Some after → Facts n present after connection
  facts_fire now after =
      applies (fire_row thread now) client after (λ c. Facts n present c connection)
      (λ session e.
      of_request (λ waiter. fire_at thread now client.session waiter waiter.stage) client thread
      session (With session) (λ waiter was f. by waiter was waiter.stage refl session f) e)
    where
      by_due : (waiter : Waiter) → waiter_in client thread ≡ Some waiter → (refusal : Refusal)
          → waiter.stage ≡ Asleep refusal → (due : Bool) → (session : Session)
          → (if due then Some (with_ticket thread waiter Ready client.session) else None)
          ≡ Some session → With session
      by_due waiter was refusal e true session f =
          reached _ session
          (readied waiter was (inside_asleep waiter was refusal e)
          (ap (λ s. gives_up_at s waiter.want.function) e) (ap is_joining_at e)
          (ap is_asked_at e)) f
      by_due waiter was refusal e false session f = absurd (never session f)

      by : (waiter : Waiter) → waiter_in client thread ≡ Some waiter → (stage : Stage)
          → waiter.stage ≡ stage → (session : Session)
          → fire_at thread now client.session waiter stage ≡ Some session → With session
      by waiter was (Asleep refusal) e session f =
          by_due waiter was refusal e (is_due refusal.due now) session f
      by waiter was _ e session f = absurd (never session f)

  -- quit
  pub facts_quit : (after : Client) → client_row (quit_row thread) client ≡ Some after
      → Facts n present after connection
  facts_quit after =
      applies (quit_row thread) client after (λ c. Facts n present c connection)
      (λ session e.
      of_request (λ waiter. quit_at thread client.session waiter waiter.stage) client thread session
      (With session) (λ waiter was f. by waiter was waiter.stage refl session f) e)
    where
      ends : (waiter : Waiter) → waiter_in client thread ≡ Some waiter
          → is_asked_at waiter.stage ≡ false
          → With (without_waiter thread waiter client.session)
      ends waiter was not_asked = by_registered waiter.registered refl
        where
          by_registered : (b : Bool) → waiter.registered ≡ b
              → With (with_waiter thread None
              (if b
              then with_latches
              (leave_at (channel_in client.session thread waiter) client.session.latches)
              client.session
              else client.session))
          by_registered true e =
              left n present client connection facts thread within waiter was (client.replies thread) _
              (changes_waiter thread None client
              (with_latches
              (leave_at (channel_in client.session thread waiter) client.session.latches)
              client.session) refl refl)
              (no_reply client thread waiter was not_asked facts.answered) e refl
          by_registered false e =
              ended n present client connection facts thread within waiter was (client.replies thread) _
              (changes_waiter thread None client client.session refl refl)
              (no_reply client thread waiter was not_asked facts.answered) e refl

      -- it ends, or gives its place up first
      quits : (waiter : Waiter) → waiter_in client thread ≡ Some waiter
          → (stage : Stage) → waiter.stage ≡ stage → FitsStage stage waiter.registered
          → (FitsStage stage waiter.registered → waiter.registered ≡ true)
          → is_asked_at stage ≡ false
          → With (quit thread waiter client.session)
      quits waiter was stage e fits inside not_asked =
          by_leaving (leaving_function waiter.want.function) refl
        where
          by_leaving : (found : Option Function)
              → leaving_function waiter.want.function ≡ found
              → With (given_up thread waiter client.session found)
          by_leaving None f = ends waiter was (ap is_asked_at e ∙ not_asked)
          by_leaving (Some function) f =
              gave_up n present client connection facts thread within waiter was
              (next_count client.session.turn) (inside fits) (ap is_some f)
              (ap is_asked_at e ∙ not_asked)

      placed_at : (waiter : Waiter) → waiter_in client thread ≡ Some waiter → (stage : Stage)
          → waiter.stage ≡ stage → FitsStage stage waiter.registered
      placed_at waiter was stage e =
          subst (λ s. FitsStage s waiter.registered) e
          (placed_was thread None client client within facts.placed waiter was).fits

      by : (waiter : Waiter) → waiter_in client thread ≡ Some waiter → (stage : Stage)
          → waiter.stage ≡ stage → (session : Session)
          → quit_at thread client.session waiter stage ≡ Some session → With session
      by waiter was Joining e session f =
          reached _ session
          (quits waiter was Joining e (placed_at waiter was Joining e) (λ inside. inside) refl) f
      by waiter was (Ready turn) e session f =
          reached _ session
          (quits waiter was (Ready turn) e (placed_at waiter was (Ready turn) e)
          (λ inside. inside) refl) f
      by waiter was (Refused refusal) e session f =
          reached _ session
          (quits waiter was (Refused refusal) e (placed_at waiter was (Refused refusal) e)
          (λ inside. inside) refl) f
      by waiter was (Asleep refusal) e session f =
          reached _ session
          (quits waiter was (Asleep refusal) e (placed_at waiter was (Asleep refusal) e)
          (λ inside. inside) refl) f
      by waiter was _ e session f = absurd (never session f)

  -- the facts of a client with this session whose thread has taken its reply
  abbrev Then : Session → Type 0
  Then session =
      Facts (suc n) present (record (with_reply thread None client) { session = session }) connection

  then_later : (session : Session)
      → Facts n present (record (with_reply thread None client) { session = session }) connection
      → Then session
  then_later session =
      facts_later n present (record (with_reply thread None client) { session = session }) connection

  -- take
  pub facts_take : (after : Client) → suc n < 2 ^ 64 → take_reply thread client ≡ Some after
      → Facts (suc n) present after connection
  facts_take after few = by_reply (client.replies thread) refl
    where
      -- the request ends
      done : (waiter : Waiter) → waiter_in client thread ≡ Some waiter → (asking : Asking)
          → (reply : Reply)
          → Then (watched_by reply asking (key_in client.session thread waiter.want)
          (without_waiter thread waiter client.session))
      done waiter was asking reply = by_registered waiter.registered refl
        where
          by_registered : (b : Bool) → waiter.registered ≡ b
              → Then (watched_by reply asking (key_in client.session thread waiter.want)
              (with_waiter thread None
              (if b
              then with_latches
              (leave_at (channel_in client.session thread waiter) client.session.latches)
              client.session
              else client.session)))
          by_registered true e =
              watched _ asking (key_in client.session thread waiter.want) Then
              (λ watchdog.
              then_later _
              (left n present client connection facts thread within waiter was None _
              (changes_both thread None None client
              (with_watchdog watchdog
              (with_latches
              (leave_at (channel_in client.session thread waiter) client.session.latches)
              client.session)) refl refl) refl e refl))
              reply
          by_registered false e =
              watched _ asking (key_in client.session thread waiter.want) Then
              (λ watchdog.
              then_later _
              (ended n present client connection facts thread within waiter was None _
              (changes_both thread None None client
              (with_watchdog watchdog client.session) refl refl)
              refl e refl))
              reply

      -- the call was refused, and the thread isn't registered yet
      registering : (waiter : Waiter) → waiter_in client thread ≡ Some waiter
          → waiter.registered ≡ false → Then (registered thread waiter client.session)
      registering waiter was outside =
          by (is_subscribed
          (register_in (client.session.latches.entries (channel_in client.session thread waiter))))
          refl
        where
          by : (b : Bool)
              → is_subscribed
              (register_in
              (client.session.latches.entries (channel_in client.session thread waiter)))
              ≡ b
              → Then (if b
              then with_ticket thread
              (record {
                mode = waiter.mode;
                want = waiter.want;
                stage = waiter.stage;
                registered = true;
              }) Ready
              (with_latches
              (register_at (channel_in client.session thread waiter) client.session.latches)
              client.session)
              else with_stage thread
              (record {
                mode = waiter.mode;
                want = waiter.want;
                stage = waiter.stage;
                registered = true;
              }) Joining
              (with_latches
              (register_at (channel_in client.session thread waiter) client.session.latches)
              client.session))
          by true e =
              registers n present client connection facts thread within waiter was
              (record {
                mode = waiter.mode;
                want = waiter.want;
                stage = Ready (next_count client.session.turn);
                registered = true;
              })
              _ few
              (changes_both thread _ None client
              (record
              (with_latches
              (register_at (channel_in client.session thread waiter) client.session.latches)
              client.session) {
                turn = next_count client.session.turn;
              }) refl refl)
              outside refl refl refl (ap not (sym e)) refl refl refl
          by false e =
              registers n present client connection facts thread within waiter was
              (record {
                mode = waiter.mode;
                want = waiter.want;
                stage = Joining;
                registered = true;
              })
              _ few
              (changes_both thread _ None client
              (with_latches
              (register_at (channel_in client.session thread waiter) client.session.latches)
              client.session) refl refl)
              outside refl refl refl (ap not (sym e)) refl refl refl

      by_waits : (waiter : Waiter) → waiter_in client thread ≡ Some waiter → (asking : Asking)
          → waiter.stage ≡ Asked asking → (reply : Reply) → client.replies thread ≡ Some reply
          → (b : Bool) → waits_for reply waiter ≡ b
          → Then (if b then refused thread waiter asking reply client.session
          else watched_by reply asking (key_in client.session thread waiter.want)
          (without_waiter thread waiter client.session))
      by_waits waiter was asking asked reply replied false e = done waiter was asking reply
      by_waits waiter was asking asked reply replied true e = by_registered waiter.registered refl
        where
          by_registered : (b : Bool) → waiter.registered ≡ b
              → Then (if b
              then with_stage thread waiter
              (Refused (record { due = due_after asking.at reply; seen = asking.seen }))
              client.session
              else registered thread waiter client.session)
          by_registered true f =
              then_later _
              (refused_again n present client connection facts thread within waiter was asking reply
              asked replied
              (and_parts (may_wait waiter.mode) (blocks reply waiter.want.function) e).1 f)
          by_registered false f = registering waiter was f

      by_stage : (waiter : Waiter) → waiter_in client thread ≡ Some waiter → (stage : Stage)
          → waiter.stage ≡ stage → (reply : Reply) → client.replies thread ≡ Some reply
          → (session : Session)
          → take_at thread reply client.session waiter stage ≡ Some session → Then session
      by_stage waiter was (Asked asking) e reply replied session f =
          subst Then (same_Some _ session f)
          (by_waits waiter was asking e reply replied (waits_for reply waiter) refl)
      by_stage waiter was _ e reply replied session f = absurd (never session f)

      by_reply : (found : Option Reply) → client.replies thread ≡ found
          → take_with thread found client ≡ Some after → Facts (suc n) present after connection
      by_reply None e f = absurd (never after f)
      by_reply (Some reply) e f =
          applies (take_row thread reply) (with_reply thread None client) after
          (λ c. Facts (suc n) present c connection)
          (λ session g.
          of_request (λ waiter. take_at thread reply client.session waiter waiter.stage) client
          thread session (Then session)
          (λ waiter was h. by_stage waiter was waiter.stage refl reply e session h) g)
          f
