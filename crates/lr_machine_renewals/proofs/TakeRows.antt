-- A thread takes the reply to its call: what is so of its client's watchdog stays so.
use Rattle.std.proofs.Common.{◌≡◌, ℕ, suc, ◌+◌, ◌<◌, ◌≤◌, ◌==◌, ◌^◌, List, Bool, true, false, Option, Some, None, if◌then◌else◌, refl, sym, ap, ◌∙◌, subst}
use Rattle.std.proofs.lemmas.Bool.{eq-eqb}
use Rattle.lr_limits.specs.Limits.{watchdog_lease}
use Rattle.lr_names.specs.Owner.{ThreadOfClient}
use Rattle.lr_objects.specs.declared.reply.Reply.{Reply}
use Rattle.lr_objects.specs.declared.reply.Reply.TheVariants as replies
use Rattle.lr_model.specs.Answer.{Objects}
use Rattle.lr_model.specs.Table.{put}
use Rattle.lr_waiting.specs.declared.waiter.Asking.{Asking}
use Rattle.lr_waiting.specs.declared.waiter.Refusal.{Refusal}
use Rattle.lr_waiting.specs.declared.waiter.Stage.{Stage}
use Rattle.lr_waiting.specs.declared.waiter.Stage.TheVariants.{Fresh, Asked, Joining, Ready, Refused, Asleep, Leaving}
use Rattle.lr_waiting.specs.declared.waiter.Waiter.{Waiter}
use Rattle.lr_waiting.specs.declared.watch.WatchKey.{WatchKey}
use Rattle.lr_waiting.specs.Client.{Client, with_reply, take_with, take_reply}
use Rattle.lr_waiting.specs.Latch.{is_subscribed, leave_at, next_count, register_at, register_in}
use Rattle.lr_waiting.specs.Peak.{gives_deadline}
use Rattle.lr_waiting.specs.Session.{Session, take_row, take_at, of_waiter, taken, refused, registered, without_waiter, watched_by, watch_begun, watch_ended, waits_for, due_after, key_in, channel_in, with_latches, with_stage, with_ticket, with_waiter, at_stage}
use Rattle.lr_machine_renewals.specs.WatchFacts.{LastsUntil, key_for, IsSent, SentAt, SentWith, AreWatched}
use Rattle.lr_machine_renewals.proofs.Watched.{Sent, CoreWatched, ClientWatched, watched-client_row, watched-more, watched-thread}
use Rattle.lr_machine_renewals.proofs.WatchChanges.{key-owner, watched-begun, watched-dropped}

-- Watches that begin or end by a reply.

module _ (n : ℕ) (objects : Objects) (moment : ℕ) (id : List ℕ) (client : Client)
    (were : AreWatched n objects moment id client) (few : suc n < 2 ^ 64) (thread : ℕ)
    (none : client.session.waiters thread ≡ None) (asking : Asking) (past : asking.at ≤ moment)
  where
    abbrev Now : Session → Type 0
    Now session = AreWatched (suc n) objects moment id (record client { session = session })

    -- a hold is the thread's, and lasts for the lease from the asking where it was given so
    record IsGot (reply : Reply) (found : Option WatchKey) : Type 0 where
      own : (key : WatchKey) → found ≡ Some key
          → key.owner ≡ record { client = id; thread = thread }
      lasts : (key : WatchKey) → found ≡ Some key → gives_deadline reply ≡ true
          → asking.watched ≡ true → LastsUntil objects moment key (asking.at + watchdog_lease)

    same : Now client.session
    same = watched-more n objects moment id client were

    begun : (reply : Reply) (found : Option WatchKey) → IsGot reply found
        → gives_deadline reply ≡ true → (watched : Bool) → asking.watched ≡ watched
        → Now (if watched then watch_begun asking.at found client.session else client.session)
    begun reply None got gives true e = same
    begun reply (Some key) got gives true e =
        watched-begun n objects moment id client were key few thread asking.at (got.own key refl)
        none past (got.lasts key refl gives e)
    begun reply found got gives false e = same

    ended : (found : Option WatchKey) → Now (watch_ended found client.session)
    ended None = same
    ended (Some key) = watched-dropped n objects moment id client were key

    watched-by : (reply : Reply) (found : Option WatchKey) → IsGot reply found
        → Now (watched_by reply asking found client.session)
    watched-by replies.Granted found got = begun replies.Granted found got refl asking.watched refl
    watched-by (replies.GrantedToken token) found got =
        begun (replies.GrantedToken token) found got refl asking.watched refl
    watched-by replies.Freed found got = ended found
    watched-by replies.NotHeld found got = ended found
    watched-by _ found got = same

-- The row.

module _ (n : ℕ) (objects : Objects) (moment : ℕ) (id : List ℕ) (client : Client)
    (were : AreWatched n objects moment id client) (few : suc n < 2 ^ 64) (thread : ℕ)
    (reply : Reply) where
  abbrev session : Session
  session = client.session

  abbrev own : ThreadOfClient
  own = record { client = id; thread = thread }

  -- the client without the reply
  abbrev heard : Client
  heard = with_reply thread None client

  -- the thread's request becomes another
  now : (after : Session) (found : Option Waiter)
      → SentWith objects moment session.watchdog.watches own found None
      → after.client ≡ session.client → after.watchdog ≡ session.watchdog
      → after.waiters ≡ put ◌==◌ session.waiters thread found
      → AreWatched n objects moment id (record heard { session = after })
  now after found here own_is dog changed =
      watched-thread n objects moment id client were thread (record heard { session = after })
      own_is dog refl
      (λ t e. (
        ap (λ (w : ℕ → Option Waiter). w t) changed
            ∙ ap (λ b. if b then found else session.waiters t) e,
        ap (λ b. if b then None else client.replies t) e,
      ))
      (subst
      (λ (r : Option Reply). Sent n objects moment id client were thread (after.waiters thread) r)
      (sym (ap (λ b. if b then None else client.replies thread) (eq-eqb thread thread refl)))
      (subst (λ (f : Option Waiter). Sent n objects moment id client were thread f None)
      (sym
      (ap (λ (w : ℕ → Option Waiter). w thread) changed
      ∙ ap (λ b. if b then found else session.waiters thread) (eq-eqb thread thread refl)))
      here))

  watched-registered : (waiter : Waiter)
      → AreWatched n objects moment id
      (record heard { session = registered thread waiter session })
  watched-registered waiter =
      by (is_subscribed (register_in (session.latches.entries (channel_in session thread waiter))))
    where
      joined : Waiter
      joined = record {
        mode = waiter.mode;
        want = waiter.want;
        stage = waiter.stage;
        registered = true;
      }

      waiting : Session
      waiting =
          with_latches (register_at (channel_in session thread waiter) session.latches) session

      by : (hears : Bool)
          → AreWatched n objects moment id
          (record heard {
            session = if hears then with_ticket thread joined Ready waiting
                else with_stage thread joined Joining waiting;
          })
      by true =
          now _ (Some (at_stage (Ready (next_count session.turn)) joined)) refl refl refl refl
      by false = now _ (Some (at_stage Joining joined)) refl refl refl refl

  watched-refused : (waiter : Waiter) (asking : Asking)
      → AreWatched n objects moment id
      (record heard { session = refused thread waiter asking reply session })
  watched-refused waiter asking = by waiter.registered
    where
      refusal : Refusal
      refusal = record { due = due_after asking.at reply; seen = asking.seen }

      by : (inside : Bool)
          → AreWatched n objects moment id
          (record heard {
            session = if inside then with_stage thread waiter (Refused refusal) session
                else registered thread waiter session;
          })
      by true = now _ (Some (at_stage (Refused refusal) waiter)) refl refl refl refl
      by false = watched-registered waiter

  -- the request ends
  watched-without : (waiter : Waiter)
      → AreWatched n objects moment id
      (record heard { session = without_waiter thread waiter session })
  watched-without waiter = by waiter.registered
    where
      by : (waits : Bool)
          → AreWatched n objects moment id
          (record heard {
            session = with_waiter thread None
                (if waits
                then with_latches (leave_at (channel_in session thread waiter) session.latches)
                session
                else session);
          })
      by true = now _ None refl refl refl refl
      by false = now _ None refl refl refl refl

  no-request : (waiter : Waiter) → (without_waiter thread waiter session).waiters thread ≡ None
  no-request waiter = by waiter.registered
    where
      gone : (if thread == thread then None else session.waiters thread) ≡ None
      gone = ap (λ b. if b then None else session.waiters thread) (eq-eqb thread thread refl)

      by : (waits : Bool)
          → (with_waiter thread None
          (if waits
          then with_latches (leave_at (channel_in session thread waiter) session.latches) session
          else session)).waiters thread
          ≡ None
      by true = gone
      by false = gone

  watched-taken : (waiter : Waiter) (asking : Asking)
      → IsSent objects moment session.watchdog.watches own waiter.want asking (Some reply)
      → AreWatched (suc n) objects moment id
      (record heard { session = taken thread waiter asking reply session })
  watched-taken waiter asking sent = by (waits_for reply waiter)
    where
      about : (key : WatchKey) → key_in session thread waiter.want ≡ Some key
          → key_for own waiter.want ≡ Some key
      about key e =
          sym (ap (λ k. key_for (record { client = k; thread = thread }) waiter.want) were.own) ∙ e

      by : (waits : Bool)
          → AreWatched (suc n) objects moment id
          (record heard {
            session = if waits then refused thread waiter asking reply session
                else watched_by reply asking (key_in session thread waiter.want)
                (without_waiter thread waiter session);
          })
      by true =
          watched-more n objects moment id
          (record heard { session = refused thread waiter asking reply session })
          (watched-refused waiter asking)
      by false =
          watched-by n objects moment id
          (record heard { session = without_waiter thread waiter session })
          (watched-without waiter) few thread (no-request waiter) asking sent.past reply
          (key_in session thread waiter.want)
          (record {
            own = λ key e. key-owner own waiter.want key (about key e);
            lasts = λ key e gives watched. sent.lasts gives watched key (about key e);
          })

  watched-take_at : (waiter : Waiter) (stage : Stage)
      → SentAt objects moment session.watchdog.watches own waiter.want stage (Some reply)
      → CoreWatched (suc n) objects moment id heard (take_at thread reply session waiter stage)
  watched-take_at waiter (Asked asking) sent = watched-taken waiter asking sent
  watched-take_at waiter (Fresh turn) none = tt
  watched-take_at waiter (Ready turn) none = tt
  watched-take_at waiter (Leaving turn) none = tt
  watched-take_at waiter Joining none = tt
  watched-take_at waiter (Refused refusal) none = tt
  watched-take_at waiter (Asleep refusal) none = tt

  watched-take_row : client.replies thread ≡ Some reply
      → CoreWatched (suc n) objects moment id heard (take_row thread reply session)
  watched-take_row e =
      by (session.waiters thread)
      (subst
      (λ (r : Option Reply). Sent n objects moment id client were thread
      (session.waiters thread) r)
      e (were.threads thread))
    where
      by : (found : Option Waiter)
          → Sent n objects moment id client were thread found (Some reply)
          → CoreWatched (suc n) objects moment id heard
          (of_waiter (λ waiter. take_at thread reply session waiter waiter.stage) found)
      by None none = tt
      by (Some waiter) sent = watched-take_at waiter waiter.stage sent

-- a thread takes the reply that waits for it, if one does
pub watched-take : (n : ℕ) (objects : Objects) (moment : ℕ) (id : List ℕ) (client : Client)
    → AreWatched n objects moment id client → suc n < 2 ^ 64 → (thread : ℕ)
    → ClientWatched (suc n) objects moment id (take_reply thread client)
watched-take n objects moment id client were few thread = by (client.replies thread) refl
  where
    by : (found : Option Reply) → client.replies thread ≡ found
        → ClientWatched (suc n) objects moment id (take_with thread found client)
    by None e = tt
    by (Some reply) e =
        watched-client_row (suc n) objects moment id (take_row thread reply)
        (with_reply thread None client)
        (watched-take_row n objects moment id client were few thread reply e)
