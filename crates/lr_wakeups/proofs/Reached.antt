-- Those who were refused on a channel where a message wakes all, at each change.
use Rattle.std.proofs.Common.{◌≡◌, ℕ, suc, ◌<◌, ◌≤◌, ◌^◌, ◌==◌, nat_lt, List, Bool, true, false, Option, Some, None, refl, ap, sym, ◌∙◌, subst, arith, if◌then◌else◌, ◌⊎◌, inl, inr}
use Rattle.std.proofs.lemmas.Bool.{and_from, eqb-true, false≢true, cases_eq}
use Rattle.std.proofs.lemmas.Bool.Decides.{nat_tests}
use Rattle.lr_limits.specs.Limits.{thread_limit}
use Rattle.lr_names.specs.Channel.{ChannelOf}
use Rattle.lr_names.specs.Owner.{ThreadOfClient}
use Rattle.lr_names.specs.declared.kind.Wakes.{Wakes}
use Rattle.lr_names.specs.declared.kind.Wakes.TheVariants.{One, All}
use Rattle.lr_names.specs.declared.post.Push.{Push}
use Rattle.lr_objects.specs.declared.kinds.Function.{Function}
use Rattle.lr_objects.specs.declared.reply.Reply.{Reply}
use Rattle.lr_waiting.specs.declared.latch.LatchEntry.{LatchEntry}
use Rattle.lr_waiting.specs.declared.waiter.Asking.{Asking}
use Rattle.lr_waiting.specs.declared.waiter.Stage.{Stage}
use Rattle.lr_waiting.specs.declared.waiter.Stage.TheVariants.{Asked, Ready}
use Rattle.lr_waiting.specs.declared.waiter.Waiter.{Waiter}
use Rattle.lr_model.specs.Board.{same_channel, Connection}
use Rattle.lr_model.proofs.SameChannel.{same_self}
use Rattle.lr_waiting.specs.Client.{Client, waiter_in}
use Rattle.lr_waiting.specs.Latch.{register_first, register_more, register_in, leave_last, leave_more, leave_in, acknowledge_in, deliver_to, deliver_in}
use Rattle.lr_waiting.specs.Session.{at_stage, channel_for, channel_in}
use Rattle.lr_waiting.specs.Stand.{in_flight, is_awake_at, due_at}
use Rattle.lr_wakeups.specs.Registered.{registered_with, is_registered}
use Rattle.lr_wakeups.specs.Standing.{is_blocked_at}
use Rattle.lr_wakeups.specs.Reached.{Present, WaitsIn, ReachedWith, ReachedIn, GoesOn, IsLeftWaiting, seen_at}
use Rattle.lr_wakeups.proofs.Entries.{kept_or_none, acknowledged_by, delivered_by}
use Rattle.lr_wakeups.proofs.Threads.{ChangesThread}

-- What the changes of an entry make of the number of messages that came.

zero_of : (r : ℕ) → nat_lt 0 r ≡ false → 1 ≤ r → ⊥
zero_of r none more = grind (arith, nat_tests)

pub number_registered : (entry : LatchEntry) → (register_in entry).broadcast ≡ entry.broadcast
number_registered entry = by (entry.registered == 0)
  where
    by : (first : Bool)
        → (if first then register_first entry else register_more entry).broadcast
        ≡ entry.broadcast
    by true = refl
    by false = refl

-- the last one to leave leaves nobody who could miss it
pub number_left : (wakes : Wakes) (entry : LatchEntry) → 2 ≤ entry.registered
    → (leave_in wakes entry).broadcast ≡ entry.broadcast
number_left wakes entry many = by (entry.registered == 1) refl
  where
    fewer : (w : Wakes) → (leave_more w entry).broadcast ≡ entry.broadcast
    fewer One = refl
    fewer All = refl

    by : (last : Bool) → (entry.registered == 1) ≡ last
        → (if last then leave_last entry else leave_more wakes entry).broadcast
        ≡ entry.broadcast
    by true e = absurd (omega (arith, eqb-true entry.registered 1 e, many))
    by false e = fewer wakes

pub few_left : (n : ℕ) (wakes : Wakes) (entry : LatchEntry) → entry.broadcast ≤ n
    → (leave_in wakes entry).broadcast ≤ n
few_left n wakes entry few = by (entry.registered == 1)
  where
    fewer : (w : Wakes) → (leave_more w entry).broadcast ≤ n
    fewer One = few
    fewer All = few

    by : (last : Bool)
        → (if last then leave_last entry else leave_more wakes entry).broadcast ≤ n
    by true =
        kept_or_none (λ x. x.broadcast ≤ n) (record entry { registered = 0; permits = 0 }) few
        (λ none same. omega arith)
    by false = fewer wakes

pub number_acknowledged : (entry : LatchEntry) → 1 ≤ entry.registered
    → (acknowledge_in entry).broadcast ≡ entry.broadcast
number_acknowledged entry some =
    acknowledged_by (λ x. x.broadcast ≡ entry.broadcast) entry (λ same. refl) refl
    (λ none last. absurd (zero_of entry.registered none some))

pub few_acknowledged : (n : ℕ) (entry : LatchEntry) → entry.broadcast ≤ n
    → (acknowledge_in entry).broadcast ≤ n
few_acknowledged n entry few =
    acknowledged_by (λ x. x.broadcast ≤ n) entry (λ same. few) few (λ none last. omega arith)

-- a message that wakes all is one more
pub number_delivered : (n : ℕ) (entry : LatchEntry) → entry.broadcast ≤ n → suc n < 2 ^ 64
    → 1 ≤ entry.registered → (deliver_in All entry).broadcast ≡ suc entry.broadcast
number_delivered n entry few bound some =
    delivered_by (λ x. x.broadcast ≡ suc entry.broadcast) All entry
    (λ none. absurd (omega (arith, none, some))) (λ more. omega (arith, few, bound))

pub number_handed_on : (entry : LatchEntry) → (deliver_in One entry).broadcast ≡ entry.broadcast
number_handed_on entry =
    delivered_by (λ x. x.broadcast ≡ entry.broadcast) One entry (λ none. refl) (λ more. refl)

pub few_delivered : (n : ℕ) (wakes : Wakes) (entry : LatchEntry) → entry.broadcast ≤ n
    → suc n < 2 ^ 64 → (deliver_in wakes entry).broadcast ≤ suc n
few_delivered n wakes entry few bound =
    delivered_by (λ x. x.broadcast ≤ suc n) wakes entry (λ none. omega (arith, few))
    (λ more. by wakes)
  where
    by : (w : Wakes) → (deliver_to w entry).broadcast ≤ suc n
    by One = omega (arith, few)
    by All = omega (arith, few, bound)

-- who is awake wasn't refused
pub awake_free : (stage : Stage) (function : Function)
    → is_awake_at stage None function ≡ true → is_blocked_at stage None function ≡ false
awake_free (Ready turn) function awake = refl
awake_free (Asked asking) function awake = refl
awake_free _ function awake = absurd (false≢true awake)

-- One request.

module _ (present : Present) (id : List ℕ) (thread : ℕ) where
  abbrev own : ThreadOfClient
  own = record { client = id; thread = thread }

  -- it stays: its entry has the number that it had, and no message is on its way that wasn't
  pub reached_moved : (entries then_ : ChannelOf → LatchEntry) (outbox after : List Push)
      (reply : Option Reply) (waiter : Waiter)
      → (waiter.registered ≡ true → (then_ (channel_for own waiter.want)).broadcast
      ≡ (entries (channel_for own waiter.want)).broadcast)
      → (in_flight (channel_for own waiter.want) after ≡ false
      → in_flight (channel_for own waiter.want) outbox ≡ false)
      → ReachedWith present id entries outbox thread reply (Some waiter)
      → ReachedWith present id then_ after thread reply (Some waiter)
  reached_moved entries then_ outbox after reply waiter same quiet reached = record {
    noted = λ inside.
        subst (λ k. seen_at waiter.stage ≤ k) (sym (same inside)) (reached.noted inside);
    waits = λ inside all blocked silent now.
        reached.waits inside all blocked (quiet silent) (sym (same inside) ∙ now);
  }

  -- it doesn't wait
  pub reached_outside : (entries : ChannelOf → LatchEntry) (outbox : List Push)
      (reply : Option Reply) (waiter : Waiter) → waiter.registered ≡ false
      → ReachedWith present id entries outbox thread reply (Some waiter)
  reached_outside entries outbox reply waiter outside = record {
    noted = λ inside. absurd (false≢true (sym outside ∙ inside));
    waits = λ inside all blocked silent now. absurd (false≢true (sym outside ∙ inside));
  }

  -- it wasn't refused
  pub reached_free : (entries : ChannelOf → LatchEntry) (outbox : List Push)
      (reply : Option Reply) (waiter : Waiter)
      → (waiter.registered ≡ true
      → seen_at waiter.stage ≤ (entries (channel_for own waiter.want)).broadcast)
      → is_blocked_at waiter.stage reply waiter.want.function ≡ false
      → ReachedWith present id entries outbox thread reply (Some waiter)
  reached_free entries outbox reply waiter noted free = record {
    noted = noted;
    waits = λ inside all blocked silent now. absurd (false≢true (sym free ∙ blocked));
  }

  -- it was refused, and comes to another stage in which it knows the same
  pub reached_kept : (entries : ChannelOf → LatchEntry) (outbox : List Push)
      (old new : Option Reply) (waiter : Waiter) (stage : Stage)
      → seen_at stage ≡ seen_at waiter.stage → due_at stage new ≡ due_at waiter.stage old
      → is_blocked_at waiter.stage old waiter.want.function ≡ true
      → ReachedWith present id entries outbox thread old (Some waiter)
      → ReachedWith present id entries outbox thread new (Some (at_stage stage waiter))
  reached_kept entries outbox old new waiter stage seen due was reached = record {
    noted = λ inside.
        subst (λ k. k ≤ (entries (channel_for own waiter.want)).broadcast) (sym seen)
        (reached.noted inside);
    waits = λ inside all blocked silent now.
        subst (WaitsIn present own waiter.want) (sym due)
        (reached.waits inside all was silent (now ∙ seen));
  }

  -- a reply has come for it
  pub reached_answered : (entries : ChannelOf → LatchEntry) (outbox : List Push)
      (old : Option Reply) (waiter : Waiter) (asking : Asking) (answer : Reply)
      → waiter.stage ≡ Asked asking
      → IsLeftWaiting present own waiter.want asking.at answer
      → ReachedWith present id entries outbox thread old (Some waiter)
      → ReachedWith present id entries outbox thread (Some answer) (Some waiter)
  reached_answered entries outbox old waiter asking answer asked left reached = record {
    noted = reached.noted;
    waits = λ inside all blocked silent now.
        subst (λ s. WaitsIn present own waiter.want (due_at s (Some answer))) (sym asked)
        (left.waits all
        (sym (ap (λ s. is_blocked_at s (Some answer) waiter.want.function) asked) ∙ blocked));
  }

  -- all goes on where it waits
  pub reached_later : (then_ : Present) (told : ChannelOf → Bool) → GoesOn told present then_
      → (entries : ChannelOf → LatchEntry) (outbox : List Push) (reply : Option Reply)
      (waiter : Waiter) → told (channel_for own waiter.want) ≡ false
      → ReachedWith present id entries outbox thread reply (Some waiter)
      → ReachedWith then_ id entries outbox thread reply (Some waiter)
  reached_later then_ told goes entries outbox reply waiter untold reached = record {
    noted = reached.noted;
    waits = λ inside all blocked silent now.
        goes.waits own waiter.want (due_at waiter.stage reply) all untold
        (reached.waits inside all blocked silent now);
  }

-- A request of a client that stays.
pub reached_there : (present : Present) (client : Client) (then_ : ChannelOf → LatchEntry)
    (outbox after : List Push) (t : ℕ)
    → ((q : ChannelOf) → is_registered q client t ≡ true
    → (then_ q).broadcast ≡ (client.session.latches.entries q).broadcast)
    → ((q : ChannelOf) → in_flight q after ≡ false → in_flight q outbox ≡ false)
    → (found : Option Waiter) → waiter_in client t ≡ found
    → ReachedWith present client.session.client client.session.latches.entries outbox t
    (client.replies t) found
    → ReachedWith present client.session.client then_ after t (client.replies t) found
reached_there present client then_ outbox after t numbers quiet None is reached = tt
reached_there present client then_ outbox after t numbers quiet (Some waiter) is reached =
    reached_moved present client.session.client t client.session.latches.entries then_ outbox after
    (client.replies t) waiter
    (λ inside.
    numbers (channel_in client.session t waiter)
    (ap (registered_with (channel_in client.session t waiter) client t) is
    ∙ and_from waiter.registered
    (same_channel (channel_in client.session t waiter) (channel_in client.session t waiter))
    inside (same_self (channel_in client.session t waiter))))
    (quiet (channel_in client.session t waiter)) reached

-- One thread changes: it is so of this thread, and the others stay.
pub reached_changes : (present : Present) (thread : ℕ) (found : Option Waiter)
    (reply : Option Reply) (before after : Client)
    → ChangesThread thread found reply before after → (connection : Connection)
    → ReachedWith present before.session.client after.session.latches.entries connection.outbox
    thread reply found
    → ((t : ℕ) → (t ≡ thread → ⊥) → t ≤ thread_limit → (q : ChannelOf)
    → is_registered q before t ≡ true
    → (after.session.latches.entries q).broadcast
    ≡ (before.session.latches.entries q).broadcast)
    → ((t : ℕ) → t ≤ thread_limit → ReachedIn present before connection t)
    → (t : ℕ) → t ≤ thread_limit → ReachedIn present after connection t
reached_changes present thread found reply before after changes connection here numbers reached t within =
    by (cases_eq t thread)
  where
    -- it is written as of the client afterwards
    written : (k : ℕ) (old : Option Reply) (was : Option Waiter)
        → after.replies k ≡ old → waiter_in after k ≡ was
        → ReachedWith present before.session.client after.session.latches.entries
        connection.outbox k old was
        → ReachedIn present after connection k
    written k old was answer waiter so =
        subst
        (λ w. ReachedWith present after.session.client after.session.latches.entries
        connection.outbox k (after.replies k) w)
        (sym waiter)
        (subst
        (λ r. ReachedWith present after.session.client after.session.latches.entries
        connection.outbox k r was)
        (sym answer)
        (subst
        (λ i. ReachedWith present i after.session.latches.entries connection.outbox k old was)
        (sym changes.id) so))

    by : (t ≡ thread) ⊎ (t ≡ thread → ⊥) → ReachedIn present after connection t
    by (inl same) =
        subst (ReachedIn present after connection) (sym same)
        (written thread reply found changes.answer changes.waiter here)
    by (inr apart) =
        written t (before.replies t) (waiter_in before t) (changes.answers t apart)
        (changes.waiters t apart)
        (reached_there present before after.session.latches.entries connection.outbox
        connection.outbox t (numbers t apart within) (λ q quiet. quiet) (waiter_in before t) refl
        (reached t within))
