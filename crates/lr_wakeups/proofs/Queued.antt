-- Those who were refused a fair lock, at each change.
use Rattle.std.proofs.Common.{◌≡◌, ℕ, ◌<◌, ◌≤◌, List, Bool, true, false, Option, Some, None, is_some, refl, ap, sym, ◌∙◌, subst, ◌&&◌, ◌⊎◌, inl, inr}
use Rattle.std.proofs.lemmas.Bool.{and_parts, and_from, false≢true, cases_eq}
use Rattle.lr_limits.specs.Limits.{thread_limit}
use Rattle.lr_names.specs.Channel.{ChannelOf, is_fair}
use Rattle.lr_names.specs.Owner.{ThreadOfClient}
use Rattle.lr_names.specs.declared.post.Push.{Push}
use Rattle.lr_objects.specs.Reply.{blocks}
use Rattle.lr_objects.specs.declared.reply.Reply.{Reply}
use Rattle.lr_waiting.specs.declared.latch.LatchEntry.{LatchEntry}
use Rattle.lr_waiting.specs.declared.waiter.Asking.{Asking}
use Rattle.lr_waiting.specs.declared.waiter.Stage.{Stage}
use Rattle.lr_waiting.specs.declared.waiter.Stage.TheVariants.{Asked}
use Rattle.lr_waiting.specs.declared.waiter.Waiter.{Waiter}
use Rattle.lr_model.specs.Board.{same_channel, Connection}
use Rattle.lr_model.proofs.SameChannel.{same_self}
use Rattle.lr_waiting.specs.Client.{Client, waiter_in}
use Rattle.lr_waiting.specs.Session.{at_stage, channel_for, channel_in, leaving_function}
use Rattle.lr_waiting.specs.Stand.{in_flight, due_at}
use Rattle.lr_wakeups.specs.Joining.{is_queue_leave, gives_up_at}
use Rattle.lr_wakeups.specs.Queued.{HasPlace, QueuedWith, QueuedIn, IsLeftQueued, QueueGoesOn, NobodyIsBlocked}
use Rattle.lr_wakeups.specs.Reached.{Present}
use Rattle.lr_wakeups.specs.Registered.{registered_with, is_registered}
use Rattle.lr_wakeups.specs.Standing.{is_blocked_at, blocked_with, is_blocked}
use Rattle.lr_wakeups.proofs.FairChannels.{one_waits}
use Rattle.lr_wakeups.proofs.Threads.{ChangesThread}

-- what stands where a message was sent: it is on its way, or there is a permit
abbrev pub Tells : List Push → LatchEntry → ChannelOf → Type 0
Tells outbox entry q = (in_flight q outbox ≡ true) ⊎ (0 < entry.permits)

-- One request.

module _ (present : Present) (id : List ℕ) (thread : ℕ) where
  abbrev own : ThreadOfClient
  own = record { client = id; thread = thread }

  -- it stays, and what it was told isn't lost
  pub queued_moved : (entries then_ : ChannelOf → LatchEntry) (outbox after : List Push)
      (reply : Option Reply) (waiter : Waiter)
      → (waiter.registered ≡ true → is_fair (channel_for own waiter.want).kind ≡ true
      → Tells outbox (entries (channel_for own waiter.want)) (channel_for own waiter.want)
      → Tells after (then_ (channel_for own waiter.want)) (channel_for own waiter.want))
      → QueuedWith present id entries outbox thread reply (Some waiter)
      → QueuedWith present id then_ after thread reply (Some waiter)
  queued_moved entries then_ outbox after reply waiter tells queued = record {
    place = queued.place;
    told = λ inside fair blocked now. tells inside fair (queued.told inside fair blocked now);
    ends = queued.ends;
  }

  -- it wasn't refused
  pub queued_free : (entries : ChannelOf → LatchEntry) (outbox : List Push)
      (reply : Option Reply) (waiter : Waiter)
      → is_blocked_at waiter.stage reply waiter.want.function ≡ false
      → QueuedWith present id entries outbox thread reply (Some waiter)
  queued_free entries outbox reply waiter free = record {
    place = λ inside fair blocked. absurd (false≢true (sym free ∙ blocked));
    told = λ inside fair blocked now. absurd (false≢true (sym free ∙ blocked));
    ends = λ gives. free;
  }

  -- who was refused doesn't give its place up
  pub refused_stays : (entries : ChannelOf → LatchEntry) (outbox : List Push)
      (reply : Option Reply) (waiter : Waiter)
      → QueuedWith present id entries outbox thread reply (Some waiter)
      → is_blocked_at waiter.stage reply waiter.want.function ≡ true
      → gives_up_at waiter.stage waiter.want.function ≡ false
  refused_stays entries outbox reply waiter queued blocked =
      by (gives_up_at waiter.stage waiter.want.function) refl
    where
      by : (gives : Bool) → gives_up_at waiter.stage waiter.want.function ≡ gives
          → gives ≡ false
      by true e = absurd (false≢true (sym (queued.ends e) ∙ blocked))
      by false e = refl

  -- it was refused, and comes to another stage in which it knows the same
  pub queued_kept : (entries : ChannelOf → LatchEntry) (outbox : List Push)
      (old new : Option Reply) (waiter : Waiter) (stage : Stage)
      → due_at stage new ≡ due_at waiter.stage old
      → is_blocked_at waiter.stage old waiter.want.function ≡ true
      → gives_up_at stage waiter.want.function ≡ false
      → QueuedWith present id entries outbox thread old (Some waiter)
      → QueuedWith present id entries outbox thread new (Some (at_stage stage waiter))
  queued_kept entries outbox old new waiter stage due was stays queued = record {
    place = λ inside fair blocked.
        subst (HasPlace (present.left (channel_for own waiter.want))) (sym due)
        (queued.place inside fair was);
    told = λ inside fair blocked now. queued.told inside fair was now;
    ends = λ gives. absurd (false≢true (sym stays ∙ gives));
  }

  -- a reply has come for it
  pub queued_answered : (entries : ChannelOf → LatchEntry) (outbox : List Push)
      (waiter : Waiter) (asking : Asking) (answer : Reply)
      → waiter.stage ≡ Asked asking → IsLeftQueued present own waiter asking answer
      → QueuedWith present id entries outbox thread (Some answer) (Some waiter)
  queued_answered entries outbox waiter asking answer asked left = record {
    place = λ inside fair blocked.
        subst
        (λ s. HasPlace (present.left (channel_for own waiter.want)) (due_at s (Some answer)))
        (sym asked) (left.place inside fair (refused blocked));
    told = λ inside fair blocked now.
        absurd (false≢true (sym (left.untold inside fair (refused blocked)) ∙ now));
    ends = λ gives.
        ap (λ s. is_blocked_at s (Some answer) waiter.want.function) asked
        ∙ left.ends
        (and_parts (is_some (leaving_function waiter.want.function))
        (is_queue_leave asking.op.call)
        (sym (ap (λ s. gives_up_at s waiter.want.function) asked) ∙ gives)).1;
  }
    where
      refused : is_blocked_at waiter.stage (Some answer) waiter.want.function ≡ true
          → blocks answer waiter.want.function ≡ true
      refused blocked =
          sym (ap (λ s. is_blocked_at s (Some answer) waiter.want.function) asked) ∙ blocked

-- A request of a client that stays.
pub queued_there : (present : Present) (client : Client) (then_ : ChannelOf → LatchEntry)
    (outbox after : List Push) (t : ℕ)
    → ((q : ChannelOf) → is_registered q client t ≡ true → is_fair q.kind ≡ true
    → Tells outbox (client.session.latches.entries q) q → Tells after (then_ q) q)
    → (found : Option Waiter) → waiter_in client t ≡ found
    → QueuedWith present client.session.client client.session.latches.entries outbox t
    (client.replies t) found
    → QueuedWith present client.session.client then_ after t (client.replies t) found
queued_there present client then_ outbox after t tells None is queued = tt
queued_there present client then_ outbox after t tells (Some waiter) is queued =
    queued_moved present client.session.client t client.session.latches.entries then_ outbox after
    (client.replies t) waiter
    (λ inside.
    tells (channel_in client.session t waiter)
    (ap (registered_with (channel_in client.session t waiter) client t) is
    ∙ and_from waiter.registered
    (same_channel (channel_in client.session t waiter) (channel_in client.session t waiter))
    inside (same_self (channel_in client.session t waiter))))
    queued

-- One thread changes: it is so of this thread, and the others stay. No other is registered at the
-- channel of a fair lock where this one is.
pub queued_changes : (present : Present) (thread : ℕ) (found : Option Waiter)
    (reply : Option Reply) (before after : Client)
    → ChangesThread thread found reply before after → (connection : Connection)
    → QueuedWith present before.session.client after.session.latches.entries connection.outbox
    thread reply found
    → ((q : ChannelOf) → is_registered q before thread ≡ false
    → (after.session.latches.entries q).permits ≡ (before.session.latches.entries q).permits)
    → ((t : ℕ) → t ≤ thread_limit → QueuedIn present before connection t)
    → (t : ℕ) → t ≤ thread_limit → QueuedIn present after connection t
queued_changes present thread found reply before after changes connection here stay were t within =
    by (cases_eq t thread)
  where
    -- it is written as of the client afterwards
    written : (k : ℕ) (old : Option Reply) (was : Option Waiter)
        → after.replies k ≡ old → waiter_in after k ≡ was
        → QueuedWith present before.session.client after.session.latches.entries
        connection.outbox k old was
        → QueuedIn present after connection k
    written k old was answer waiter so =
        subst
        (λ w. QueuedWith present after.session.client after.session.latches.entries
        connection.outbox k (after.replies k) w)
        (sym waiter)
        (subst
        (λ r. QueuedWith present after.session.client after.session.latches.entries
        connection.outbox k r was)
        (sym answer)
        (subst
        (λ i. QueuedWith present i after.session.latches.entries connection.outbox k old was)
        (sym changes.id) so))

    -- another's permit stays
    others : (t ≡ thread → ⊥) → (q : ChannelOf) → is_registered q before t ≡ true
        → is_fair q.kind ≡ true
        → Tells connection.outbox (before.session.latches.entries q) q
        → Tells connection.outbox (after.session.latches.entries q) q
    others apart q there fair (inl flies) = inl flies
    others apart q there fair (inr some) = by_test (is_registered q before thread) refl
      where
        by_test : (b : Bool) → is_registered q before thread ≡ b
            → Tells connection.outbox (after.session.latches.entries q) q
        by_test true e = absurd (apart (one_waits q before thread t fair e there))
        by_test false e = inr (subst (λ k. 0 < k) (sym (stay q e)) some)

    by : (t ≡ thread) ⊎ (t ≡ thread → ⊥) → QueuedIn present after connection t
    by (inl same) =
        subst (QueuedIn present after connection) (sym same)
        (written thread reply found changes.answer changes.waiter here)
    by (inr apart) =
        written t (before.replies t) (waiter_in before t) (changes.answers t apart)
        (changes.waiters t apart)
        (queued_there present before after.session.latches.entries connection.outbox
        connection.outbox t (others apart) (waiter_in before t) refl (were t within))

-- who was refused is blocked on its own channel
pub blocked_there : (client : Client) (t : ℕ) (waiter : Waiter)
    → waiter_in client t ≡ Some waiter → waiter.registered ≡ true
    → is_blocked_at waiter.stage (client.replies t) waiter.want.function ≡ true
    → is_blocked (channel_in client.session t waiter) client t ≡ true
blocked_there client t waiter was inside blocked =
    ap (blocked_with (channel_in client.session t waiter) client t) was
    ∙ and_from
    (waiter.registered
    && same_channel (channel_in client.session t waiter) (channel_in client.session t waiter))
    (is_blocked_at waiter.stage (client.replies t) waiter.want.function)
    (and_from waiter.registered
    (same_channel (channel_in client.session t waiter) (channel_in client.session t waiter))
    inside (same_self (channel_in client.session t waiter)))
    blocked

-- The server does something, or time passes.
module _ (present then_ : Present) (told acts : ChannelOf → Bool)
    (goes : QueueGoesOn told acts present then_) (client : Client)
    (nobody : NobodyIsBlocked acts client) (t : ℕ) (within : t ≤ thread_limit)
    (outbox after : List Push)
    (message : (q : ChannelOf) → is_blocked q client t ≡ true → told q ≡ true
    → in_flight q after ≡ true)
    (flies : (q : ChannelOf) → in_flight q outbox ≡ true → in_flight q after ≡ true) where
  -- who was refused made no call
  made_none : (q : ChannelOf) → is_blocked q client t ≡ true → acts q ≡ false
  made_none q blocked = by (acts q) refl
    where
      by : (b : Bool) → acts q ≡ b → acts q ≡ false
      by false e = e
      by true e = absurd (false≢true (sym (nobody q t e within) ∙ blocked))

  -- what told it tells it
  tells_on : (q : ChannelOf) (entry : LatchEntry) → is_blocked q client t ≡ true
      → then_.told q ≡ true → (present.told q ≡ true → Tells outbox entry q)
      → Tells after entry q
  tells_on q entry blocked now tells = by (told q) refl
    where
      carry : Tells outbox entry q → Tells after entry q
      carry (inl was) = inl (flies q was)
      carry (inr some) = inr some

      by : (b : Bool) → told q ≡ b → Tells after entry q
      by true e = inl (message q blocked e)
      by false e = carry (tells (goes.untold q e now))

  pub queued_goes_on : (found : Option Waiter) → waiter_in client t ≡ found
      → QueuedWith present client.session.client client.session.latches.entries outbox t
      (client.replies t) found
      → QueuedWith then_ client.session.client client.session.latches.entries after t
      (client.replies t) found
  queued_goes_on None is queued = tt
  queued_goes_on (Some waiter) is queued = record {
    place = λ inside fair blocked.
        subst (λ l. HasPlace l (due_at waiter.stage (client.replies t)))
        (sym
        (goes.places (channel_in client.session t waiter)
        (made_none (channel_in client.session t waiter)
        (blocked_there client t waiter is inside blocked))))
        (queued.place inside fair blocked);
    told = λ inside fair blocked now.
        tells_on (channel_in client.session t waiter)
        (client.session.latches.entries (channel_in client.session t waiter))
        (blocked_there client t waiter is inside blocked) now
        (queued.told inside fair blocked);
    ends = queued.ends;
  }
