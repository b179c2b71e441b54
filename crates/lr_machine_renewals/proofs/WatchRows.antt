-- The rows of a client that change no watch keep what is so of its watchdog.
use Rattle.std.proofs.Common.{◌≡◌, ℕ, ◌==◌, List, Bool, true, false, Option, Some, None, is_some, if◌then◌else◌, refl, sym, ap, ◌∙◌, subst, arith, ◌⊎◌, inl, inr}
use Rattle.std.specs.Option.{option_map}
use Rattle.std.proofs.lemmas.Bool.{and_parts, false≢true, or_right}
use Rattle.lr_names.specs.Channel.{ChannelOf}
use Rattle.lr_names.specs.Owner.{ThreadOfClient}
use Rattle.lr_names.specs.declared.post.Push.{Push}
use Rattle.lr_names.specs.declared.post.Push.TheVariants.{Subscribed, Unsubscribed, Message}
use Rattle.lr_objects.specs.Want.{op_of}
use Rattle.lr_objects.specs.declared.kinds.Function.{Function}
use Rattle.lr_objects.specs.declared.kinds.Function.TheVariants as functions
use Rattle.lr_objects.specs.declared.op.Op.{Op}
use Rattle.lr_objects.specs.declared.reply.Reply.{Reply}
use Rattle.lr_objects.specs.declared.want.Mode.{Mode}
use Rattle.lr_objects.specs.declared.want.Want.{Want}
use Rattle.lr_model.specs.Answer.{Objects}
use Rattle.lr_model.specs.Board.{same_channel}
use Rattle.lr_model.specs.Table.{put}
use Rattle.lr_waiting.specs.declared.latch.Checked.{Checked}
use Rattle.lr_waiting.specs.declared.latch.Checked.TheVariants as checks
use Rattle.lr_waiting.specs.declared.latch.Woken.{Woken}
use Rattle.lr_waiting.specs.declared.latch.Woken.TheVariants as wakings
use Rattle.lr_waiting.specs.declared.waiter.Refusal.{Refusal}
use Rattle.lr_waiting.specs.declared.waiter.Stage.{Stage}
use Rattle.lr_waiting.specs.declared.waiter.Stage.TheVariants.{Fresh, Asked, Joining, Ready, Refused, Asleep, Leaving}
use Rattle.lr_waiting.specs.declared.waiter.Waiter.{Waiter}
use Rattle.lr_waiting.specs.declared.watch.WatchKey.{WatchKey}
use Rattle.lr_waiting.specs.Client.{Client}
use Rattle.lr_waiting.specs.Latch.{acknowledge_in, acknowledge_at, is_due, is_subscribed, checked_in, leave_at, next_count, woken_in}
use Rattle.lr_waiting.specs.Session.{Session, begin_row, begin_at, new_waiter, ask_row, ask_at, asked, asking_for, asks_watched, is_watch, is_watched_in, lease_asked, lease_in, key_in, may_wait, leaving_function, leaving_want, given_up, quit, check_row, check_at, checked, wake_row, wake_at, woken, fire_row, fire_at, quit_row, quit_at, pushed, watch_key, watch_kind, without_waiter, entry_for, channel_in, with_latches, with_ticket, with_waiter, with_joined, is_joining_at, is_joining, joins, joined_waiter, joining_ticket, at_stage}
use Rattle.lr_machine_renewals.specs.WatchFacts.{key_for, has_given, IsSent, SentAt, SentWith, AreWatched}
use Rattle.lr_machine_renewals.proofs.Watched.{Sent, CoreWatched, watched-threads, watched-request, watched-row}

-- a request that gives its place up is about the same hold
leaving-hold : (owner : ThreadOfClient) (want : Want)
    → key_for owner (leaving_want want (leaving_function want.function)) ≡ key_for owner want
leaving-hold owner want = by want.function refl
  where
    by : (function : Function) → want.function ≡ function
        → key_for owner (leaving_want want (leaving_function function)) ≡ key_for owner want
    by (functions.Fair f) e =
        ap (λ g. option_map (watch_key owner want.name) (watch_kind g)) (sym e)
    by _ e = refl

module _ (n : ℕ) (objects : Objects) (moment : ℕ) (id : List ℕ) (client : Client)
    (were : AreWatched n objects moment id client) (thread : ℕ) where
  -- the core, the thread as an owner, the reply that waits for it, and a request of it
  abbrev session : Session
  session = client.session

  abbrev own : ThreadOfClient
  own = record { client = id; thread = thread }

  abbrev reply : Option Reply
  reply = client.replies thread

  abbrev At : Want → Stage → Type 0
  At want stage = SentAt objects moment session.watchdog.watches own want stage reply

  -- it becomes another
  now : (after : Session) (found : Option Waiter)
      → Sent n objects moment id client were thread found reply
      → after.client ≡ session.client → after.watchdog ≡ session.watchdog
      → after.waiters ≡ put ◌==◌ session.waiters thread found
      → AreWatched n objects moment id (record client { session = after })
  now after found here = watched-request n objects moment id client were thread after found here

  abbrev After : Option Session → Type 0
  After found = CoreWatched n objects moment id client found

  pub watched-begin : (mode : Mode) (want : Want) → After (begin_row thread mode want session)
  watched-begin mode want = by session.is_cut
    where
      found : (waiter : Option Waiter)
          → SentWith objects moment session.watchdog.watches own waiter reply
          → After (begin_at thread mode want session waiter)
      found None none =
          now _ (Some (new_waiter mode want (next_count session.turn))) none refl refl refl
      found (Some waiter) sent = tt

      by : (cut : Bool)
          → After
          (if cut then None else begin_at thread mode want session (session.waiters thread))
      by true = tt
      by false = found (session.waiters thread) (were.threads thread)

  -- a call is sent now
  sent-op : (want : Want) (waiter : Waiter)
      → (asking_for thread moment want waiter session).op
      ≡ op_of want own (lease_asked session thread want) (may_wait waiter.mode)
  sent-op want waiter =
      ap
      (λ k. op_of want (record { client = k; thread = thread }) (lease_asked session thread want)
      (may_wait waiter.mode))
      were.own

  -- that gets the watchdog's lease where its hold is watched
  sent-noted : (want : Want) (key : WatchKey) → key_for own want ≡ Some key
      → is_some (session.watchdog.watches key) ≡ true → asks_watched session thread want ≡ true
  sent-noted want key about watched =
      or_right (is_watch want.lease) (is_watched_in session (key_in session thread want))
      (ap (is_watched_in session)
      (ap (λ k. key_for (record { client = k; thread = thread }) want) were.own ∙ about)
      ∙ watched)

  sent-now : (waiter : Waiter) → reply ≡ None → (want : Want)
      → ((want ≡ waiter.want)
      ⊎ (want ≡ leaving_want waiter.want (leaving_function waiter.want.function)))
      → key_for own want ≡ key_for own waiter.want
      → IsSent objects moment session.watchdog.watches own waiter.want
      (asking_for thread moment want waiter session) reply
  sent-now waiter none want which same = record {
    lease = lease_asked session thread want;
    queue = may_wait waiter.mode;
    op = op which;
    past = omega arith;
    under = λ watched.
        ap (λ b. if b then session.watchdog.lease else lease_in session want.lease) watched
        ∙ were.lease;
    noted = λ key about watched. sent-noted want key (same ∙ about) watched;
    lasts = λ given watched key about. absurd (false≢true (sym (ap has_given none) ∙ given));
  }
    where
      called : Want → Op
      called w = op_of w own (lease_asked session thread want) (may_wait waiter.mode)

      op : ((want ≡ waiter.want)
          ⊎ (want ≡ leaving_want waiter.want (leaving_function waiter.want.function)))
          → ((asking_for thread moment want waiter session).op ≡ called waiter.want)
          ⊎ ((asking_for thread moment want waiter session).op
          ≡ called (leaving_want waiter.want (leaving_function waiter.want.function)))
      op (inl e) = inl (sent-op want waiter ∙ ap called e)
      op (inr e) = inr (sent-op want waiter ∙ ap called e)

  watched-asking : (waiter : Waiter) → reply ≡ None
      → AreWatched n objects moment id
      (record client { session = asked thread moment waiter.want waiter session })
  watched-asking waiter none =
      now _
      (Some (at_stage (Asked (asking_for thread moment waiter.want waiter session)) waiter))
      (sent-now waiter none waiter.want (inl refl) refl) refl refl refl

  watched-leaving : (waiter : Waiter) → reply ≡ None
      → AreWatched n objects moment id
      (record client {
        session = asked thread moment
            (leaving_want waiter.want (leaving_function waiter.want.function)) waiter session;
      })
  watched-leaving waiter none =
      now _
      (Some
      (at_stage
      (Asked
      (asking_for thread moment
      (leaving_want waiter.want (leaving_function waiter.want.function)) waiter session))
      waiter))
      (sent-now waiter none (leaving_want waiter.want (leaving_function waiter.want.function))
      (inr refl) (leaving-hold own waiter.want))
      refl refl refl

  watched-ask_at : (waiter : Waiter) (stage : Stage) → At waiter.want stage
      → After (ask_at thread moment session waiter stage)
  watched-ask_at waiter (Fresh turn) none = watched-asking waiter none
  watched-ask_at waiter (Ready turn) none = watched-asking waiter none
  watched-ask_at waiter (Leaving turn) none = watched-leaving waiter none
  watched-ask_at waiter (Asked asking) sent = tt
  watched-ask_at waiter Joining none = tt
  watched-ask_at waiter (Refused refusal) none = tt
  watched-ask_at waiter (Asleep refusal) none = tt

  pub watched-ask : After (ask_row thread moment session)
  watched-ask =
      watched-row n objects moment id client were thread
      (λ waiter. ask_at thread moment session waiter waiter.stage)
      (λ waiter sent. watched-ask_at waiter waiter.stage sent)

  -- it may ask once more
  watched-ready : (after : Session) (waiter : Waiter) → reply ≡ None
      → after.client ≡ session.client → after.watchdog ≡ session.watchdog
      → after.waiters
      ≡ put ◌==◌ session.waiters thread
      (Some (at_stage (Ready (next_count session.turn)) waiter))
      → AreWatched n objects moment id (record client { session = after })
  watched-ready after waiter none =
      now after (Some (at_stage (Ready (next_count session.turn)) waiter)) none

  watched-checked : (waiter : Waiter) → reply ≡ None → (refusal : Refusal) (found : Checked)
      → AreWatched n objects moment id
      (record client { session = checked thread waiter refusal session found })
  watched-checked waiter none refusal checks.Sleep =
      now _ (Some (at_stage (Asleep refusal) waiter)) none refl refl refl
  watched-checked waiter none refusal checks.Permit =
      watched-ready _ waiter none refl refl refl
  watched-checked waiter none refusal checks.Broadcast =
      watched-ready _ waiter none refl refl refl
  watched-checked waiter none refusal checks.Timer = watched-ready _ waiter none refl refl refl

  watched-check_at : (time : ℕ) (waiter : Waiter) (stage : Stage) → At waiter.want stage
      → After (check_at thread time session waiter stage)
  watched-check_at time waiter (Refused refusal) none =
      watched-checked waiter none refusal
      (checked_in (entry_for session thread waiter) refusal.seen refusal.due time)
  watched-check_at time waiter (Fresh turn) none = tt
  watched-check_at time waiter (Ready turn) none = tt
  watched-check_at time waiter (Leaving turn) none = tt
  watched-check_at time waiter Joining none = tt
  watched-check_at time waiter (Asked asking) sent = tt
  watched-check_at time waiter (Asleep refusal) none = tt

  pub watched-check : (time : ℕ) → After (check_row thread time session)
  watched-check time =
      watched-row n objects moment id client were thread
      (λ waiter. check_at thread time session waiter waiter.stage)
      (λ waiter sent. watched-check_at time waiter waiter.stage sent)

  watched-woken : (waiter : Waiter) → reply ≡ None → (found : Woken)
      → After (woken thread waiter session found)
  watched-woken waiter none wakings.NotYet = tt
  watched-woken waiter none wakings.Permit = watched-ready _ waiter none refl refl refl
  watched-woken waiter none wakings.Broadcast = watched-ready _ waiter none refl refl refl

  watched-wake_at : (waiter : Waiter) (stage : Stage) → At waiter.want stage
      → After (wake_at thread session waiter stage)
  watched-wake_at waiter (Asleep refusal) none =
      watched-woken waiter none (woken_in (entry_for session thread waiter) refusal.seen)
  watched-wake_at waiter (Fresh turn) none = tt
  watched-wake_at waiter (Ready turn) none = tt
  watched-wake_at waiter (Leaving turn) none = tt
  watched-wake_at waiter Joining none = tt
  watched-wake_at waiter (Asked asking) sent = tt
  watched-wake_at waiter (Refused refusal) none = tt

  pub watched-wake : After (wake_row thread session)
  watched-wake =
      watched-row n objects moment id client were thread
      (λ waiter. wake_at thread session waiter waiter.stage)
      (λ waiter sent. watched-wake_at waiter waiter.stage sent)

  watched-fire_at : (time : ℕ) (waiter : Waiter) (stage : Stage) → At waiter.want stage
      → After (fire_at thread time session waiter stage)
  watched-fire_at time waiter (Asleep refusal) none = by (is_due refusal.due time)
    where
      by : (due : Bool)
          → After (if due then Some (with_ticket thread waiter Ready session) else None)
      by true = watched-ready _ waiter none refl refl refl
      by false = tt
  watched-fire_at time waiter (Fresh turn) none = tt
  watched-fire_at time waiter (Ready turn) none = tt
  watched-fire_at time waiter (Leaving turn) none = tt
  watched-fire_at time waiter Joining none = tt
  watched-fire_at time waiter (Asked asking) sent = tt
  watched-fire_at time waiter (Refused refusal) none = tt

  pub watched-fire : (time : ℕ) → After (fire_row thread time session)
  watched-fire time =
      watched-row n objects moment id client were thread
      (λ waiter. fire_at thread time session waiter waiter.stage)
      (λ waiter sent. watched-fire_at time waiter waiter.stage sent)

  -- a request that ends, or gives its place up first
  watched-without_waiter : (waiter : Waiter) → reply ≡ None
      → AreWatched n objects moment id
      (record client { session = without_waiter thread waiter session })
  watched-without_waiter waiter none = by waiter.registered
    where
      by : (waits : Bool)
          → AreWatched n objects moment id
          (record client {
            session = with_waiter thread None
                (if waits
                then with_latches (leave_at (channel_in session thread waiter) session.latches)
                session
                else session);
          })
      by true = now _ None none refl refl refl
      by false = now _ None none refl refl refl

  watched-quit_now : (waiter : Waiter) → reply ≡ None
      → AreWatched n objects moment id (record client { session = quit thread waiter session })
  watched-quit_now waiter none = by (leaving_function waiter.want.function)
    where
      by : (found : Option Function)
          → AreWatched n objects moment id
          (record client { session = given_up thread waiter session found })
      by None = watched-without_waiter waiter none
      by (Some function) =
          now _ (Some (at_stage (Leaving (next_count session.turn)) waiter)) none refl refl refl

  watched-quit_at : (waiter : Waiter) (stage : Stage) → At waiter.want stage
      → After (quit_at thread session waiter stage)
  watched-quit_at waiter Joining none = watched-quit_now waiter none
  watched-quit_at waiter (Ready turn) none = watched-quit_now waiter none
  watched-quit_at waiter (Refused refusal) none = watched-quit_now waiter none
  watched-quit_at waiter (Asleep refusal) none = watched-quit_now waiter none
  watched-quit_at waiter (Fresh turn) none = tt
  watched-quit_at waiter (Asked asking) sent = tt
  watched-quit_at waiter (Leaving turn) none = tt

  pub watched-quit : After (quit_row thread session)
  watched-quit =
      watched-row n objects moment id client were thread
      (λ waiter. quit_at thread session waiter waiter.stage)
      (λ waiter sent. watched-quit_at waiter waiter.stage sent)

-- Items and orders.

module _ (n : ℕ) (objects : Objects) (moment : ℕ) (id : List ℕ) (client : Client)
    (were : AreWatched n objects moment id client) where
  -- only latches change
  pub watched-latches : (after : Session) → after.client ≡ client.session.client
      → after.watchdog ≡ client.session.watchdog → after.waiters ≡ client.session.waiters
      → AreWatched n objects moment id (record client { session = after })
  watched-latches after own dog same =
      watched-threads n objects moment id client were (record client { session = after }) own dog
      refl
      (λ thread.
      subst
      (λ (w : ℕ → Option Waiter). Sent n objects moment id client were thread (w thread)
      (client.replies thread))
      (sym same) (were.threads thread))

  -- the client hears a channel now: who has waited for that has sent no call
  watched-joined : (channel : ChannelOf) (heard : Session)
      → heard.client ≡ client.session.client → heard.watchdog ≡ client.session.watchdog
      → heard.waiters ≡ client.session.waiters
      → AreWatched n objects moment id (record client { session = with_joined channel heard })
  watched-joined channel heard own dog same =
      watched-threads n objects moment id client were
      (record client { session = with_joined channel heard }) own dog refl
      (λ thread.
      by thread (heard.waiters thread) refl
      (subst
      (λ (w : ℕ → Option Waiter). Sent n objects moment id client were thread (w thread)
      (client.replies thread))
      (sym same) (were.threads thread)))
    where
      joins_now : ℕ → Option Waiter → Bool
      joins_now = joins channel heard

      none-asked : (thread : ℕ) (want : Want) (stage : Stage) → is_joining_at stage ≡ true
          → SentAt objects moment client.session.watchdog.watches
          (record { client = id; thread = thread }) want stage (client.replies thread)
          → client.replies thread ≡ None
      none-asked thread want Joining joins none = none
      none-asked thread want _ joins sent = absurd (false≢true joins)

      of : (thread : ℕ) (waiter : Waiter) (joins : Bool)
          → (joins ≡ true → is_joining_at waiter.stage ≡ true)
          → Sent n objects moment id client were thread (Some waiter) (client.replies thread)
          → Sent n objects moment id client were thread
          (if joins
          then Some (at_stage (Ready (joining_ticket channel heard thread)) waiter)
          else Some waiter)
          (client.replies thread)
      of thread waiter true stage sent =
          none-asked thread waiter.want waiter.stage (stage refl) sent
      of thread waiter false stage sent = sent

      by : (thread : ℕ) (found : Option Waiter) → heard.waiters thread ≡ found
          → Sent n objects moment id client were thread found (client.replies thread)
          → Sent n objects moment id client were thread
          (joined_waiter channel heard thread found) (client.replies thread)
      by thread None e none = none
      by thread (Some waiter) e sent =
          of thread waiter (is_joining channel heard thread)
          (λ waits.
          (and_parts (is_joining_at waiter.stage)
          (same_channel channel (channel_in heard thread waiter))
          (ap (joins_now thread) (sym e) ∙ waits)).0)
          sent

  pub watched-pushed : (push : Push)
      → AreWatched n objects moment id (record client { session = pushed push client.session })
  watched-pushed (Subscribed channel channels) =
      by (is_subscribed (acknowledge_in (client.session.latches.entries channel)))
    where
      heard : Session
      heard = with_latches (acknowledge_at channel client.session.latches) client.session

      by : (hears : Bool)
          → AreWatched n objects moment id
          (record client { session = if hears then with_joined channel heard else heard })
      by true = watched-joined channel heard refl refl refl
      by false = watched-latches heard refl refl refl
  watched-pushed (Unsubscribed channel channels) = were
  watched-pushed (Message channel wakes) = watched-latches _ refl refl refl
