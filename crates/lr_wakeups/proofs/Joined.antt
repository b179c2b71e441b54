-- Threads that joined may ask once more when their client hears the channel; all others stay.
use Rattle.std.proofs.Common.{◌≡◌, ℕ, ◌≤◌, List, Bool, true, false, not, ◌&&◌, Option, Some, None, refl, ap, sym, ◌∙◌, subst, arith, if◌then◌else◌}
use Rattle.std.proofs.lemmas.Bool.{and_parts, false≢true}
use Rattle.lr_limits.specs.Limits.{thread_limit}
use Rattle.lr_names.specs.Channel.{ChannelOf}
use Rattle.lr_names.specs.declared.post.Push.{Push}
use Rattle.lr_objects.specs.declared.kinds.Function.{Function}
use Rattle.lr_objects.specs.declared.reply.Reply.{Reply}
use Rattle.lr_waiting.specs.declared.waiter.Stage.{Stage}
use Rattle.lr_waiting.specs.declared.waiter.Stage.TheVariants.{Joining, Ready}
use Rattle.lr_waiting.specs.declared.waiter.Waiter.{Waiter}
use Rattle.lr_model.specs.Board.{same_channel}
use Rattle.lr_waiting.specs.Latch.{is_subscribed, acknowledge_in, acknowledge_at}
use Rattle.lr_waiting.specs.Session.{at_stage, channel_in, with_latches, is_joining_at, joins, is_joining, joining_ticket, joined_waiter, with_joined}
use Rattle.lr_waiting.specs.Client.{Client, waiter_in}
use Rattle.lr_waiting.specs.Stand.{waits_at, is_awake_at, awake_with, is_awake, due_at, due_with, due_of}
use Rattle.lr_model.proofs.SameChannel.{same_is}
use Rattle.lr_wakeups.specs.Registered.{registered_with, is_registered}
use Rattle.lr_wakeups.specs.Joining.{FitsStage, IsPlaced, PlacedWith, PlacedIn}
use Rattle.lr_wakeups.specs.Answered.{is_asked_at, asked_with}
use Rattle.lr_wakeups.specs.Queued.{QueuedWith}
use Rattle.lr_wakeups.specs.Reached.{Present, ReachedWith}
use Rattle.lr_wakeups.specs.Standing.{blocked_with, is_blocked}
use Rattle.lr_wakeups.proofs.EntryChanges.{ChangesEntry}
use Rattle.lr_wakeups.proofs.Joining.{gives_up_with, placed_on}
use Rattle.lr_wakeups.proofs.Reached.{reached_free}
use Rattle.lr_wakeups.proofs.Queued.{queued_free}
use Rattle.lr_wakeups.proofs.Threads.{seen_alike, registered_local, blocked_local, awake_local, due_local}

-- What a request that joins isn't.

joining_awake : (stage : Stage) (reply : Option Reply) (function : Function)
    → is_joining_at stage ≡ true → is_awake_at stage reply function ≡ false
joining_awake Joining reply function e = refl
joining_awake _ reply function e = absurd (false≢true e)

joining_due : (stage : Stage) (reply : Option Reply) → is_joining_at stage ≡ true
    → due_at stage reply ≡ None
joining_due Joining reply e = refl
joining_due _ reply e = absurd (false≢true e)

joining_asked : (stage : Stage) → is_joining_at stage ≡ true → is_asked_at stage ≡ false
joining_asked Joining e = refl
joining_asked _ e = absurd (false≢true e)

joining_fits : (stage : Stage) (registered : Bool) → is_joining_at stage ≡ true
    → FitsStage stage registered → registered ≡ true
joining_fits Joining registered e fits = fits
joining_fits _ registered e fits = absurd (false≢true e)

and_no : (b : Bool) → (b && false) ≡ false
and_no true = refl
and_no false = refl

-- the client once the acknowledgement is counted, and once its threads were told
abbrev pub counted_client : ChannelOf → Client → Client
counted_client channel client =
    record client {
      session = with_latches (acknowledge_at channel client.session.latches) client.session;
    }

abbrev pub joined_client : ChannelOf → Client → Client
joined_client channel client =
    record client { session = with_joined channel (counted_client channel client).session }

-- what becomes of a thread
data JoinsOrStays (channel : ChannelOf) (client : Client) (thread : ℕ) (now : Option Waiter)
    : Type 0 where
  Joins : (waiter : Waiter) (turn : ℕ) → waiter_in client thread ≡ Some waiter
      → is_joining_at waiter.stage ≡ true
      → same_channel channel (channel_in client.session thread waiter) ≡ true
      → now ≡ Some (at_stage (Ready turn) waiter) → JoinsOrStays channel client thread now
  Stays : is_joining channel client.session thread ≡ false → now ≡ waiter_in client thread
      → JoinsOrStays channel client thread now

module _ (channel : ChannelOf) (client : Client) where
  joins_or_stays : (thread : ℕ)
      → JoinsOrStays channel client thread (waiter_in (joined_client channel client) thread)
  joins_or_stays thread = by (waiter_in client thread) refl
    where
      by : (found : Option Waiter) → waiter_in client thread ≡ found
          → JoinsOrStays channel client thread
          (joined_waiter channel (counted_client channel client).session thread found)
      by None was = Stays (ap (joins channel client.session thread) was) (sym was)
      by (Some waiter) was = by_test (is_joining channel client.session thread) refl
        where
          by_test : (b : Bool) → is_joining channel client.session thread ≡ b
              → JoinsOrStays channel client thread
              (if b
              then Some
              (at_stage
              (Ready (joining_ticket channel (counted_client channel client).session thread)) waiter)
              else Some waiter)
          by_test true e =
              let parts = and_parts (is_joining_at waiter.stage)
              (same_channel channel (channel_in client.session thread waiter))
              (sym (ap (joins channel client.session thread) was) ∙ e) in
              Joins waiter
              (joining_ticket channel (counted_client channel client).session thread)
              was parts.0 parts.1 refl
          by_test false e = Stays e (sym was)

  pub joined_registered : (q : ChannelOf) (thread : ℕ)
      → is_registered q (joined_client channel client) thread ≡ is_registered q client thread
  joined_registered q thread = by (joins_or_stays thread)
    where
      by : JoinsOrStays channel client thread (waiter_in (joined_client channel client) thread)
          → is_registered q (joined_client channel client) thread ≡ is_registered q client thread
      by (Joins waiter turn was joining own now) =
          seen_alike (registered_with q) (registered_local q) client (joined_client channel client)
          thread (Some (at_stage (Ready turn) waiter)) refl refl now
          ∙ sym (ap (registered_with q client thread) was)
      by (Stays other now) =
          seen_alike (registered_with q) (registered_local q) client (joined_client channel client)
          thread (waiter_in client thread) refl refl now

  pub joined_blocked : (q : ChannelOf) (thread : ℕ)
      → is_blocked q (joined_client channel client) thread ≡ true
      → is_blocked q client thread ≡ true
  joined_blocked q thread blocked = by (joins_or_stays thread)
    where
      by : JoinsOrStays channel client thread (waiter_in (joined_client channel client) thread)
          → is_blocked q client thread ≡ true
      by (Joins waiter turn was joining own now) =
          absurd
          (false≢true
          (sym
          (seen_alike (blocked_with q) (blocked_local q) client (joined_client channel client)
          thread (Some (at_stage (Ready turn) waiter)) refl refl now
          ∙ and_no (waits_at q client thread waiter))
          ∙ blocked))
      by (Stays other now) =
          sym
          (seen_alike (blocked_with q) (blocked_local q) client (joined_client channel client)
          thread (waiter_in client thread) refl refl now)
          ∙ blocked

  -- who joined wasn't refused, and all others stay
  pub joined_reached : (present : Present) (outbox : List Push) (thread : ℕ)
      → ReachedWith present client.session.client
      (acknowledge_at channel client.session.latches).entries outbox thread
      (client.replies thread) (waiter_in client thread)
      → ReachedWith present client.session.client
      (acknowledge_at channel client.session.latches).entries outbox thread
      (client.replies thread) (waiter_in (joined_client channel client) thread)
  joined_reached present outbox thread reached = by (joins_or_stays thread)
    where
      by : JoinsOrStays channel client thread (waiter_in (joined_client channel client) thread)
          → ReachedWith present client.session.client
          (acknowledge_at channel client.session.latches).entries outbox thread
          (client.replies thread) (waiter_in (joined_client channel client) thread)
      by (Joins waiter turn was joining own now) =
          subst
          (ReachedWith present client.session.client
          (acknowledge_at channel client.session.latches).entries outbox thread
          (client.replies thread))
          (sym now)
          (reached_free present client.session.client thread
          (acknowledge_at channel client.session.latches).entries outbox (client.replies thread)
          (at_stage (Ready turn) waiter) (λ inside. omega arith) refl)
      by (Stays other now) =
          subst
          (ReachedWith present client.session.client
          (acknowledge_at channel client.session.latches).entries outbox thread
          (client.replies thread))
          (sym now) reached

  pub joined_queued : (present : Present) (outbox : List Push) (thread : ℕ)
      → QueuedWith present client.session.client
      (acknowledge_at channel client.session.latches).entries outbox thread
      (client.replies thread) (waiter_in client thread)
      → QueuedWith present client.session.client
      (acknowledge_at channel client.session.latches).entries outbox thread
      (client.replies thread) (waiter_in (joined_client channel client) thread)
  joined_queued present outbox thread queued = by (joins_or_stays thread)
    where
      by : JoinsOrStays channel client thread (waiter_in (joined_client channel client) thread)
          → QueuedWith present client.session.client
          (acknowledge_at channel client.session.latches).entries outbox thread
          (client.replies thread) (waiter_in (joined_client channel client) thread)
      by (Joins waiter turn was joining own now) =
          subst
          (QueuedWith present client.session.client
          (acknowledge_at channel client.session.latches).entries outbox thread
          (client.replies thread))
          (sym now)
          (queued_free present client.session.client thread
          (acknowledge_at channel client.session.latches).entries outbox (client.replies thread)
          (at_stage (Ready turn) waiter) refl)
      by (Stays other now) =
          subst
          (QueuedWith present client.session.client
          (acknowledge_at channel client.session.latches).entries outbox thread
          (client.replies thread))
          (sym now) queued

  pub joined_awake : (q : ChannelOf) (thread : ℕ) → is_awake q client thread ≡ true
      → is_awake q (joined_client channel client) thread ≡ true
  joined_awake q thread awake = by (joins_or_stays thread)
    where
      by : JoinsOrStays channel client thread (waiter_in (joined_client channel client) thread)
          → is_awake q (joined_client channel client) thread ≡ true
      by (Joins waiter turn was joining own now) =
          absurd
          (false≢true
          (sym
          (ap (awake_with q client thread) was
          ∙ ap (λ b. waits_at q client thread waiter && b)
          (joining_awake waiter.stage (client.replies thread) waiter.want.function joining)
          ∙ and_no (waits_at q client thread waiter))
          ∙ awake))
      by (Stays other now) =
          seen_alike (awake_with q) (awake_local q) client (joined_client channel client)
          thread (waiter_in client thread) refl refl now
          ∙ awake

  none_some : (m : ℕ) → None ≡ Some m → ⊥
  none_some m e = absurd (cc e)

  pub joined_due : (q : ChannelOf) (thread m : ℕ) → due_of q client thread ≡ Some m
      → due_of q (joined_client channel client) thread ≡ Some m
  joined_due q thread m due = by (joins_or_stays thread)
    where
      no_due : (b : Bool) → ◌≡◌ {A = Option ℕ} (if b then None else None) None
      no_due true = refl
      no_due false = refl

      by : JoinsOrStays channel client thread (waiter_in (joined_client channel client) thread)
          → due_of q (joined_client channel client) thread ≡ Some m
      by (Joins waiter turn was joining own now) =
          absurd
          (none_some m
          (sym
          (ap (due_with q client thread) was
          ∙ ap (λ d. if waits_at q client thread waiter then d else None)
          (joining_due waiter.stage (client.replies thread) joining)
          ∙ no_due (waits_at q client thread waiter))
          ∙ due))
      by (Stays other now) =
          seen_alike (due_with q) (due_local q) client (joined_client channel client)
          thread (waiter_in client thread) refl refl now
          ∙ due

  pub joined_asked : (thread : ℕ)
      → asked_with (waiter_in (joined_client channel client) thread)
      ≡ asked_with (waiter_in client thread)
  joined_asked thread = by (joins_or_stays thread)
    where
      by : JoinsOrStays channel client thread (waiter_in (joined_client channel client) thread)
          → asked_with (waiter_in (joined_client channel client) thread)
          ≡ asked_with (waiter_in client thread)
      by (Joins waiter turn was joining own now) =
          ap asked_with now ∙ sym (joining_asked waiter.stage joining)
          ∙ sym (ap asked_with was)
      by (Stays other now) = ap asked_with now

  -- where the client didn't hear the channel and does now, all are placed
  pub joined_placed : (thread : ℕ) → thread ≤ thread_limit
      → is_subscribed (client.session.latches.entries channel) ≡ false
      → is_subscribed (acknowledge_in (client.session.latches.entries channel)) ≡ true
      → ChangesEntry channel (acknowledge_in (client.session.latches.entries channel))
      client.session.latches.entries
      (acknowledge_at channel client.session.latches).entries
      → PlacedIn client thread → PlacedIn (joined_client channel client) thread
  joined_placed thread within silent hears entry placed = by (joins_or_stays thread)
    where
      hears_now : is_subscribed ((acknowledge_at channel client.session.latches).entries channel)
          ≡ true
      hears_now = ap is_subscribed entry.here ∙ hears

      by : JoinsOrStays channel client thread (waiter_in (joined_client channel client) thread)
          → PlacedIn (joined_client channel client) thread
      by (Joins waiter turn was joining own now) = record {
        placed = subst (PlacedWith (joined_client channel client).session thread) (sym now) here;
      }
        where
          old : IsPlaced client.session thread waiter
          old = subst (PlacedWith client.session thread) was placed.placed

          here : IsPlaced (joined_client channel client).session thread
              (at_stage (Ready turn) waiter)
          here = record {
            fits = joining_fits waiter.stage waiter.registered joining old.fits;
            joining = λ inside stays.
                ap not
                (sym
                (ap (λ c. is_subscribed ((acknowledge_at channel client.session.latches).entries c))
                (sym (same_is channel (channel_in client.session thread waiter) own))
                ∙ hears_now));
          }
      by (Stays other now) =
          placed_on client (joined_client channel client) thread within refl now heard placed
        where
          -- nobody who is registered there stays
          nobody : (found : Option Waiter) → waiter_in client thread ≡ found
              → registered_with channel client thread found ≡ true
              → gives_up_with found ≡ false
              → PlacedWith client.session thread found → ⊥
          nobody None was there stays old = false≢true there
          nobody (Some waiter) was there stays old =
              let parts = and_parts waiter.registered
              (same_channel channel (channel_in client.session thread waiter)) there in
              let at : is_subscribed
              (client.session.latches.entries (channel_in client.session thread waiter))
              ≡ false =
              ap (λ c. is_subscribed (client.session.latches.entries c))
              (sym (same_is channel (channel_in client.session thread waiter) parts.1))
              ∙ silent in
              let joining : is_joining_at waiter.stage ≡ true =
              old.joining parts.0 stays ∙ ap not at in
              false≢true
              (sym other
              ∙ ap (joins channel client.session thread) was
              ∙ (λ i. joining i && parts.1 i))

          heard : (q : ChannelOf) → is_registered q client thread ≡ true
              → gives_up_with (waiter_in client thread) ≡ false
              → is_subscribed ((acknowledge_at channel client.session.latches).entries q)
              ≡ is_subscribed (client.session.latches.entries q)
          heard q there stays = by_test (same_channel q channel) refl
            where
              by_test : (b : Bool) → same_channel q channel ≡ b
                  → is_subscribed ((acknowledge_at channel client.session.latches).entries q)
                  ≡ is_subscribed (client.session.latches.entries q)
              by_test false e = ap is_subscribed (entry.there q e)
              by_test true e =
                  absurd
                  (nobody (waiter_in client thread) refl
                  (ap (λ c. is_registered c client thread) (sym (same_is q channel e)) ∙ there)
                  stays placed.placed)
