-- Each row of a client leaves the calls that were sent what they are.
use Rattle.std.proofs.Common.{◌≡◌, ℕ, ◌≤◌, ◌==◌, List, Bool, true, false, Option, Some, None, if◌then◌else◌, refl, sym, ap, ◌∙◌, subst, arith, inl, inr}
use Rattle.std.specs.Option.{option_map}
use Rattle.std.proofs.lemmas.Bool.{and_parts, eqb-true, false≢true}
use Rattle.lr_names.specs.Owner.{ThreadOfClient}
use Rattle.lr_names.specs.declared.post.Push.{Push}
use Rattle.lr_names.specs.declared.post.Push.TheVariants.{Subscribed, Unsubscribed, Message}
use Rattle.lr_objects.specs.Reply.{blocks}
use Rattle.lr_objects.specs.Want.{op_of}
use Rattle.lr_objects.specs.declared.kinds.Function.{Function}
use Rattle.lr_objects.specs.declared.reply.Reply.{Reply}
use Rattle.lr_objects.specs.declared.reply.Reply.TheVariants as replies
use Rattle.lr_objects.specs.declared.want.Mode.{Mode}
use Rattle.lr_objects.specs.declared.want.Want.{Want}
use Rattle.lr_model.specs.Table.{put}
use Rattle.lr_waiting.specs.declared.latch.Checked.{Checked}
use Rattle.lr_waiting.specs.declared.latch.Checked.TheVariants as checks
use Rattle.lr_waiting.specs.declared.latch.Woken.{Woken}
use Rattle.lr_waiting.specs.declared.latch.Woken.TheVariants as wakings
use Rattle.lr_waiting.specs.declared.waiter.Asking.{Asking}
use Rattle.lr_waiting.specs.declared.waiter.Refusal.{Refusal}
use Rattle.lr_waiting.specs.declared.waiter.Stage.{Stage}
use Rattle.lr_waiting.specs.declared.waiter.Stage.TheVariants.{Fresh, Asked, Joining, Ready, Refused, Asleep, Leaving}
use Rattle.lr_waiting.specs.declared.waiter.Waiter.{Waiter}
use Rattle.lr_waiting.specs.declared.watch.RenewFault.{RenewFault}
use Rattle.lr_waiting.specs.declared.watch.Renewal.{Renewal}
use Rattle.lr_waiting.specs.declared.watch.WatchKey.{WatchKey}
use Rattle.lr_waiting.specs.Client.{Client, client_row, with_reply, take_with, take_reply, with_renewed, take_renewed_with, take_renewed}
use Rattle.lr_waiting.specs.Watchdog.{renew_fault, renewal_taken, is_renewed}
use Rattle.lr_waiting.specs.Latch.{acknowledge_in, acknowledge_at, is_due, is_subscribed, checked_in, leave_at, next_count, register_at, register_in, woken_in}
use Rattle.lr_waiting.specs.Session.{Session, begin_row, begin_at, new_waiter, ask_row, ask_at, asked, asking_for, lease_asked, may_wait, leaving_function, leaving_want, given_up, quit, take_row, take_at, check_row, check_at, checked, wake_row, wake_at, woken, fire_row, fire_at, quit_row, quit_at, pushed, of_waiter, taken, refused, registered, without_waiter, watched_by, watch_begun, watch_ended, waits_for, due_after, key_in, entry_for, channel_in, with_latches, with_stage, with_ticket, with_waiter, with_joined, is_joining, joined_waiter, joining_ticket, at_stage, with_watchdog, renew_unless, renew_row, renewed_row}
use Rattle.lr_machine_wakeups.specs.WorldFacts.{AskedAt, IsMade, AskedWith, AreAsked}

-- time goes on
pub asked-later : (moment later : ℕ) (owner : ThreadOfClient) (found : Option Waiter)
    → moment ≤ later → AskedWith moment owner found → AskedWith later owner found
asked-later moment later owner None le = λ made. tt
asked-later moment later owner (Some waiter) le = λ made. record {
  asked = by waiter.stage made.asked;
  waits = made.waits;
}
  where
    by : (stage : Stage) → AskedAt moment owner waiter.mode waiter.want stage
        → AskedAt later owner waiter.mode waiter.want stage
    by (Asked asking) sent = record {
      lease = sent.lease;
      op = sent.op;
      past = omega (arith, sent.past, le);
    }
    by (Fresh turn) sent = tt
    by Joining sent = tt
    by (Ready turn) sent = tt
    by (Refused refusal) sent = tt
    by (Asleep refusal) sent = tt
    by (Leaving turn) sent = tt

-- a step, where it applies
abbrev pub AskedAfter : ℕ → List ℕ → Option Session → Type 0
AskedAfter moment id None = Unit {0}
AskedAfter moment id (Some session) = AreAsked moment id session

-- the same of a client with its replies
abbrev pub ClientAsked : ℕ → List ℕ → Option Client → Type 0
ClientAsked moment id None = Unit {0}
ClientAsked moment id (Some client) = AreAsked moment id client.session

pub asked-client_row : (moment : ℕ) (id : List ℕ) (row : Session → Option Session)
    (client : Client) → AskedAfter moment id (row client.session)
    → ClientAsked moment id (client_row row client)
asked-client_row moment id row client = by (row client.session)
  where
    by : (found : Option Session) → AskedAfter moment id found
        → ClientAsked moment id
        (option_map (λ session. record client { session = session }) found)
    by None asked = tt
    by (Some session) asked = asked

-- another request of one thread
asked-put : (moment : ℕ) (id : List ℕ) (session after : Session) (thread : ℕ)
    (found : Option Waiter) → AreAsked moment id session → after.client ≡ session.client
    → after.waiters ≡ put ◌==◌ session.waiters thread found
    → AskedWith moment (record { client = id; thread = thread }) found
    → AreAsked moment id after
asked-put moment id session after thread found were same changed here = record {
  own = same ∙ were.own;
  each = λ t.
      subst
      (λ (waiters : ℕ → Option Waiter). AskedWith moment (record { client = id; thread = t })
      (waiters t))
      (sym changed) (by t (thread == t) refl);
}
  where
    by : (t : ℕ) (same : Bool) → (thread == t) ≡ same
        → AskedWith moment (record { client = id; thread = t })
        (if same then found else session.waiters t)
    by t true e =
        subst (λ k. AskedWith moment (record { client = id; thread = k }) found)
        (eqb-true thread t e) here
    by t false e = were.each t

asked-of_waiter : (moment : ℕ) (id : List ℕ) (thread : ℕ) (row : Waiter → Option Session)
    → ((waiter : Waiter) → IsMade moment (record { client = id; thread = thread }) waiter
    → AskedAfter moment id (row waiter))
    → (found : Option Waiter)
    → AskedWith moment (record { client = id; thread = thread }) found
    → AskedAfter moment id (of_waiter row found)
asked-of_waiter moment id thread row all None made = tt
asked-of_waiter moment id thread row all (Some waiter) made = all waiter made

module _ (moment : ℕ) (id : List ℕ) (session : Session) (were : AreAsked moment id session)
    (thread : ℕ) where
  -- the thread, and a request of it
  abbrev own : ThreadOfClient
  own = record { client = id; thread = thread }

  abbrev Made : Waiter → Type 0
  Made waiter = IsMade moment own waiter

  -- the thread's request becomes another
  asked-now : (after : Session) (found : Option Waiter) → AskedWith moment own found
      → after.client ≡ session.client → after.waiters ≡ put ◌==◌ session.waiters thread found
      → AreAsked moment id after
  asked-now after found here same changed =
      asked-put moment id session after thread found were same changed here

  -- a row of the thread
  asked-row : (row : Waiter → Option Session)
      → ((waiter : Waiter) → Made waiter → AskedAfter moment id (row waiter))
      → AskedAfter moment id (of_waiter row (session.waiters thread))
  asked-row row all =
      asked-of_waiter moment id thread row all (session.waiters thread) (were.each thread)

  pub asked-begin : (mode : Mode) (want : Want)
      → AskedAfter moment id (begin_row thread mode want session)
  asked-begin mode want = by session.is_cut
    where
      found : (waiter : Option Waiter)
          → AskedAfter moment id (begin_at thread mode want session waiter)
      found None =
          asked-now _ (Some (new_waiter mode want (next_count session.turn)))
          (record { asked = tt; waits = λ inside. absurd (false≢true inside) }) refl refl
      found (Some waiter) = tt

      by : (cut : Bool)
          → AskedAfter moment id
          (if cut then None else begin_at thread mode want session (session.waiters thread))
      by true = tt
      by false = found (session.waiters thread)

  -- a call is sent now
  sent-op : (want : Want) (waiter : Waiter)
      → (asking_for thread moment want waiter session).op
      ≡ op_of want own (lease_asked session thread want) (may_wait waiter.mode)
  sent-op want waiter =
      ap
      (λ k. op_of want (record { client = k; thread = thread }) (lease_asked session thread want)
      (may_wait waiter.mode))
      were.own

  asked-asking : (waiter : Waiter) → Made waiter
      → AreAsked moment id (asked thread moment waiter.want waiter session)
  asked-asking waiter made =
      asked-now _
      (Some (at_stage (Asked (asking_for thread moment waiter.want waiter session)) waiter))
      (record {
        asked = record {
          lease = lease_asked session thread waiter.want;
          op = inl (sent-op waiter.want waiter);
          past = omega arith;
        };
        waits = made.waits;
      })
      refl refl

  asked-leaving : (waiter : Waiter) → Made waiter
      → AreAsked moment id
      (asked thread moment (leaving_want waiter.want (leaving_function waiter.want.function)) waiter
      session)
  asked-leaving waiter made =
      asked-now _
      (Some
      (at_stage
      (Asked
      (asking_for thread moment
      (leaving_want waiter.want (leaving_function waiter.want.function)) waiter session))
      waiter))
      (record {
        asked = record {
          lease = lease_asked session thread
              (leaving_want waiter.want (leaving_function waiter.want.function));
          op = inr
              (sent-op (leaving_want waiter.want (leaving_function waiter.want.function)) waiter);
          past = omega arith;
        };
        waits = made.waits;
      })
      refl refl

  asked-ask_at : (waiter : Waiter) → Made waiter → (stage : Stage)
      → AskedAfter moment id (ask_at thread moment session waiter stage)
  asked-ask_at waiter made (Fresh turn) = asked-asking waiter made
  asked-ask_at waiter made (Ready turn) = asked-asking waiter made
  asked-ask_at waiter made (Leaving turn) = asked-leaving waiter made
  asked-ask_at waiter made (Asked asking) = tt
  asked-ask_at waiter made Joining = tt
  asked-ask_at waiter made (Refused refusal) = tt
  asked-ask_at waiter made (Asleep refusal) = tt

  pub asked-ask : AskedAfter moment id (ask_row thread moment session)
  asked-ask =
      asked-row (λ waiter. ask_at thread moment session waiter waiter.stage)
      (λ waiter made. asked-ask_at waiter made waiter.stage)

  -- a request that ends
  asked-without_waiter : (waiter : Waiter)
      → AreAsked moment id (without_waiter thread waiter session)
  asked-without_waiter waiter = by waiter.registered
    where
      by : (waits : Bool)
          → AreAsked moment id
          (with_waiter thread None
          (if waits
          then with_latches (leave_at (channel_in session thread waiter) session.latches) session
          else session))
      by true = asked-now _ None tt refl refl
      by false = asked-now _ None tt refl refl

  asked-registered : (waiter : Waiter) → may_wait waiter.mode ≡ true
      → AreAsked moment id (registered thread waiter session)
  asked-registered waiter waits =
      by (is_subscribed (register_in (session.latches.entries (channel_in session thread waiter))))
    where
      joined : Waiter
      joined = record {
        mode = waiter.mode;
        want = waiter.want;
        stage = waiter.stage;
        registered = true;
      }

      by : (hears : Bool)
          → AreAsked moment id
          (if hears
          then with_ticket thread joined Ready
          (with_latches (register_at (channel_in session thread waiter) session.latches) session)
          else with_stage thread joined Joining
          (with_latches (register_at (channel_in session thread waiter) session.latches)
          session))
      by true =
          asked-now _ (Some (at_stage (Ready (next_count session.turn)) joined))
          (record { asked = tt; waits = λ inside. waits }) refl refl
      by false =
          asked-now _ (Some (at_stage Joining joined))
          (record { asked = tt; waits = λ inside. waits }) refl refl

  asked-refused : (waiter : Waiter) → Made waiter → may_wait waiter.mode ≡ true
      → (asking : Asking) (reply : Reply)
      → AreAsked moment id (refused thread waiter asking reply session)
  asked-refused waiter made waits asking reply = by waiter.registered
    where
      refusal : Refusal
      refusal = record { due = due_after asking.at reply; seen = asking.seen }

      by : (inside : Bool)
          → AreAsked moment id
          (if inside then with_stage thread waiter (Refused refusal) session
          else registered thread waiter session)
      by true =
          asked-now _ (Some (at_stage (Refused refusal) waiter))
          (record { asked = tt; waits = made.waits }) refl refl
      by false = asked-registered waiter waits

  -- watches are no calls
  asked-watched_by : (reply : Reply) (asking : Asking) (key : Option WatchKey) (now : Session)
      → AreAsked moment id now → AreAsked moment id (watched_by reply asking key now)
  asked-watched_by reply asking key now asked = by reply
    where
      begun : (k : Option WatchKey) → AreAsked moment id (watch_begun asking.at k now)
      begun None = asked
      begun (Some k) = record { own = asked.own; each = asked.each }

      ended : (k : Option WatchKey) → AreAsked moment id (watch_ended k now)
      ended None = asked
      ended (Some k) = record { own = asked.own; each = asked.each }

      if_watched : (watched : Bool)
          → AreAsked moment id (if watched then watch_begun asking.at key now else now)
      if_watched true = begun key
      if_watched false = asked

      by : (r : Reply) → AreAsked moment id (watched_by r asking key now)
      by replies.Granted = if_watched asking.watched
      by (replies.GrantedToken token) = if_watched asking.watched
      by replies.Freed = ended key
      by replies.NotHeld = ended key
      by _ = asked

  asked-taken : (waiter : Waiter) → Made waiter → (asking : Asking) (reply : Reply)
      → AreAsked moment id (taken thread waiter asking reply session)
  asked-taken waiter made asking reply = by (waits_for reply waiter) refl
    where
      by : (waits : Bool) → waits_for reply waiter ≡ waits
          → AreAsked moment id
          (if waits then refused thread waiter asking reply session
          else watched_by reply asking (key_in session thread waiter.want)
          (without_waiter thread waiter session))
      by true e =
          asked-refused waiter made
          (and_parts (may_wait waiter.mode) (blocks reply waiter.want.function) e).0 asking reply
      by false e =
          asked-watched_by reply asking (key_in session thread waiter.want)
          (without_waiter thread waiter session) (asked-without_waiter waiter)

  asked-take_at : (reply : Reply) (waiter : Waiter) → Made waiter → (stage : Stage)
      → AskedAfter moment id (take_at thread reply session waiter stage)
  asked-take_at reply waiter made (Asked asking) = asked-taken waiter made asking reply
  asked-take_at reply waiter made (Fresh turn) = tt
  asked-take_at reply waiter made (Ready turn) = tt
  asked-take_at reply waiter made (Leaving turn) = tt
  asked-take_at reply waiter made Joining = tt
  asked-take_at reply waiter made (Refused refusal) = tt
  asked-take_at reply waiter made (Asleep refusal) = tt

  pub asked-take_row : (reply : Reply) → AskedAfter moment id (take_row thread reply session)
  asked-take_row reply =
      asked-row (λ waiter. take_at thread reply session waiter waiter.stage)
      (λ waiter made. asked-take_at reply waiter made waiter.stage)

  -- it may ask once more
  asked-ready : (after : Session) (waiter : Waiter) → Made waiter
      → after.client ≡ session.client
      → after.waiters
      ≡ put ◌==◌ session.waiters thread
      (Some (at_stage (Ready (next_count session.turn)) waiter))
      → AreAsked moment id after
  asked-ready after waiter made =
      asked-now after (Some (at_stage (Ready (next_count session.turn)) waiter))
      (record { asked = tt; waits = made.waits })

  asked-checked : (waiter : Waiter) → Made waiter → (refusal : Refusal) (found : Checked)
      → AreAsked moment id (checked thread waiter refusal session found)
  asked-checked waiter made refusal checks.Sleep =
      asked-now _ (Some (at_stage (Asleep refusal) waiter))
      (record { asked = tt; waits = made.waits }) refl refl
  asked-checked waiter made refusal checks.Permit = asked-ready _ waiter made refl refl
  asked-checked waiter made refusal checks.Broadcast = asked-ready _ waiter made refl refl
  asked-checked waiter made refusal checks.Timer = asked-ready _ waiter made refl refl

  asked-check_at : (now : ℕ) (waiter : Waiter) → Made waiter → (stage : Stage)
      → AskedAfter moment id (check_at thread now session waiter stage)
  asked-check_at now waiter made (Refused refusal) =
      asked-checked waiter made refusal
      (checked_in (entry_for session thread waiter) refusal.seen refusal.due now)
  asked-check_at now waiter made (Fresh turn) = tt
  asked-check_at now waiter made (Ready turn) = tt
  asked-check_at now waiter made (Leaving turn) = tt
  asked-check_at now waiter made Joining = tt
  asked-check_at now waiter made (Asked asking) = tt
  asked-check_at now waiter made (Asleep refusal) = tt

  pub asked-check : (now : ℕ) → AskedAfter moment id (check_row thread now session)
  asked-check now =
      asked-row (λ waiter. check_at thread now session waiter waiter.stage)
      (λ waiter made. asked-check_at now waiter made waiter.stage)

  asked-woken : (waiter : Waiter) → Made waiter → (found : Woken)
      → AskedAfter moment id (woken thread waiter session found)
  asked-woken waiter made wakings.NotYet = tt
  asked-woken waiter made wakings.Permit = asked-ready _ waiter made refl refl
  asked-woken waiter made wakings.Broadcast = asked-ready _ waiter made refl refl

  asked-wake_at : (waiter : Waiter) → Made waiter → (stage : Stage)
      → AskedAfter moment id (wake_at thread session waiter stage)
  asked-wake_at waiter made (Asleep refusal) =
      asked-woken waiter made (woken_in (entry_for session thread waiter) refusal.seen)
  asked-wake_at waiter made (Fresh turn) = tt
  asked-wake_at waiter made (Ready turn) = tt
  asked-wake_at waiter made (Leaving turn) = tt
  asked-wake_at waiter made Joining = tt
  asked-wake_at waiter made (Asked asking) = tt
  asked-wake_at waiter made (Refused refusal) = tt

  pub asked-wake : AskedAfter moment id (wake_row thread session)
  asked-wake =
      asked-row (λ waiter. wake_at thread session waiter waiter.stage)
      (λ waiter made. asked-wake_at waiter made waiter.stage)

  asked-fire_at : (now : ℕ) (waiter : Waiter) → Made waiter → (stage : Stage)
      → AskedAfter moment id (fire_at thread now session waiter stage)
  asked-fire_at now waiter made (Asleep refusal) = by (is_due refusal.due now)
    where
      by : (due : Bool)
          → AskedAfter moment id
          (if due then Some (with_ticket thread waiter Ready session) else None)
      by true = asked-ready _ waiter made refl refl
      by false = tt
  asked-fire_at now waiter made (Fresh turn) = tt
  asked-fire_at now waiter made (Ready turn) = tt
  asked-fire_at now waiter made (Leaving turn) = tt
  asked-fire_at now waiter made Joining = tt
  asked-fire_at now waiter made (Asked asking) = tt
  asked-fire_at now waiter made (Refused refusal) = tt

  pub asked-fire : (now : ℕ) → AskedAfter moment id (fire_row thread now session)
  asked-fire now =
      asked-row (λ waiter. fire_at thread now session waiter waiter.stage)
      (λ waiter made. asked-fire_at now waiter made waiter.stage)

  -- a request that ends, or gives its place up first
  asked-given_up : (waiter : Waiter) → Made waiter
      → AreAsked moment id (quit thread waiter session)
  asked-given_up waiter made = by (leaving_function waiter.want.function)
    where
      by : (found : Option Function) → AreAsked moment id (given_up thread waiter session found)
      by None = asked-without_waiter waiter
      by (Some function) =
          asked-now _ (Some (at_stage (Leaving (next_count session.turn)) waiter))
          (record { asked = tt; waits = made.waits }) refl refl

  asked-quit_at : (waiter : Waiter) → Made waiter → (stage : Stage)
      → AskedAfter moment id (quit_at thread session waiter stage)
  asked-quit_at waiter made Joining = asked-given_up waiter made
  asked-quit_at waiter made (Ready turn) = asked-given_up waiter made
  asked-quit_at waiter made (Refused refusal) = asked-given_up waiter made
  asked-quit_at waiter made (Asleep refusal) = asked-given_up waiter made
  asked-quit_at waiter made (Fresh turn) = tt
  asked-quit_at waiter made (Asked asking) = tt
  asked-quit_at waiter made (Leaving turn) = tt

  pub asked-quit : AskedAfter moment id (quit_row thread session)
  asked-quit =
      asked-row (λ waiter. quit_at thread session waiter waiter.stage)
      (λ waiter made. asked-quit_at waiter made waiter.stage)

-- a reply is taken
pub asked-take : (moment : ℕ) (id : List ℕ) (thread : ℕ) (client : Client)
    → AreAsked moment id client.session → ClientAsked moment id (take_reply thread client)
asked-take moment id thread client were = by (client.replies thread)
  where
    by : (reply : Option Reply) → ClientAsked moment id (take_with thread reply client)
    by None = tt
    by (Some reply) =
        asked-client_row moment id (take_row thread reply) (with_reply thread None client)
        (asked-take_row moment id client.session were thread reply)

-- an item comes
pub asked-pushed : (moment : ℕ) (id : List ℕ) (push : Push) (session : Session)
    → AreAsked moment id session → AreAsked moment id (pushed push session)
asked-pushed moment id (Subscribed channel channels) session were =
    by (is_subscribed (acknowledge_in (session.latches.entries channel)))
  where
    heard : Session
    heard = with_latches (acknowledge_at channel session.latches) session

    joined : (thread : ℕ) (found : Option Waiter)
        → AskedWith moment (record { client = id; thread = thread }) found
        → AskedWith moment (record { client = id; thread = thread })
        (joined_waiter channel heard thread found)
    joined thread None made = tt
    joined thread (Some waiter) made = by_joining (is_joining channel heard thread)
      where
        by_joining : (joins : Bool)
            → AskedWith moment (record { client = id; thread = thread })
            (if joins
            then Some (at_stage (Ready (joining_ticket channel heard thread)) waiter)
            else Some waiter)
        by_joining true = record { asked = tt; waits = made.waits }
        by_joining false = made

    by : (hears : Bool)
        → AreAsked moment id (if hears then with_joined channel heard else heard)
    by true = record {
      own = were.own;
      each = λ thread. joined thread (session.waiters thread) (were.each thread);
    }
    by false = record { own = were.own; each = were.each }
asked-pushed moment id (Unsubscribed channel channels) session were = were
asked-pushed moment id (Message channel wakes) session were =
    record { own = were.own; each = were.each }

-- Renewals are no calls of a thread.

pub asked-renew : (moment : ℕ) (id : List ℕ) (key : WatchKey) (now : ℕ) (session : Session)
    → AreAsked moment id session → AskedAfter moment id (renew_row key now session)
asked-renew moment id key now session were = by (renew_fault now key session.watchdog)
  where
    by : (fault : Option RenewFault)
        → AskedAfter moment id (renew_unless fault now key session)
    by None = record { own = were.own; each = were.each }
    by (Some fault) = tt

asked-renewed_row : (moment : ℕ) (id : List ℕ) (key : WatchKey) (reply : Reply)
    (session : Session) → AreAsked moment id session
    → AskedAfter moment id (renewed_row key reply session)
asked-renewed_row moment id key reply session were = by (session.watchdog.renewals key)
  where
    by : (found : Option Renewal)
        → AskedAfter moment id
        (option_map
        (λ renewal. with_watchdog (renewal_taken (is_renewed reply) key session.watchdog) session)
        found)
    by None = tt
    by (Some renewal) = record { own = were.own; each = were.each }

pub asked-take_renewed : (moment : ℕ) (id : List ℕ) (key : WatchKey) (client : Client)
    → AreAsked moment id client.session → ClientAsked moment id (take_renewed key client)
asked-take_renewed moment id key client were = by (client.renewed key)
  where
    by : (reply : Option Reply) → ClientAsked moment id (take_renewed_with key reply client)
    by None = tt
    by (Some reply) =
        asked-client_row moment id (renewed_row key reply) (with_renewed key None client)
        (asked-renewed_row moment id key reply client.session were)
