-- Only the latches of a client change: its threads stay.
use Rattle.std.proofs.Common.{◌≡◌, ℕ, ◌<◌, ◌≤◌, true, Some, refl, sym, ◌∙◌}
use Rattle.lr_limits.specs.Limits.{thread_limit}
use Rattle.lr_names.specs.Channel.{ChannelOf}
use Rattle.lr_model.specs.Board.{Connection}
use Rattle.lr_waiting.specs.Latch.{Latches, is_subscribed}
use Rattle.lr_waiting.specs.Session.{with_latches}
use Rattle.lr_waiting.specs.Client.{Client, waiter_in}
use Rattle.lr_waiting.specs.Stand.{in_flight, awake_with, is_awake, due_with, due_of}
use Rattle.lr_wakeups.specs.Registered.{registered_with, IsCounted}
use Rattle.lr_wakeups.specs.Joining.{PlacedIn}
use Rattle.lr_wakeups.specs.Answered.{HasReplyIfAsked}
use Rattle.lr_wakeups.specs.Standing.{wakes_one_of_many, blocked_with, is_blocked, Stands, IsCovered, ByMessage, ByPermit, ByAwake, ByTimer}
use Rattle.lr_wakeups.proofs.Registered.{counts_same}
use Rattle.lr_wakeups.proofs.Joining.{placed_on}
use Rattle.lr_wakeups.proofs.Standing.{covered_alike}
use Rattle.lr_wakeups.proofs.Threads.{seen_alike, registered_local, blocked_local, awake_local, due_local}

abbrev pub relatched : Latches → Client → Client
relatched latches client =
    record client { session = with_latches latches client.session }

-- What stood stands: no thread is blocked that wasn't, none that was awake isn't, no timer is gone
-- and no permit, and where a message stood something does.
pub cover_threads : (peak : ℕ) (q : ChannelOf) (before after : Client)
    (connection then_ : Connection)
    → ((t : ℕ) → is_blocked q after t ≡ true → is_blocked q before t ≡ true)
    → ((t : ℕ) → is_awake q before t ≡ true → is_awake q after t ≡ true)
    → ((t m : ℕ) → due_of q before t ≡ Some m → due_of q after t ≡ Some m)
    → (0 < (before.session.latches.entries q).permits
    → 0 < (after.session.latches.entries q).permits)
    → (wakes_one_of_many q.kind ≡ true → (t : ℕ) → t ≤ thread_limit → is_blocked q before t ≡ true
    → in_flight q connection.outbox ≡ true → Stands peak q after then_)
    → IsCovered peak q before connection → IsCovered peak q after then_
cover_threads peak q before after connection then_ blocked awake due permit message =
    covered_alike peak peak q before after connection then_ blocked carry
  where
    carry : wakes_one_of_many q.kind ≡ true → (t : ℕ) → t ≤ thread_limit
        → is_blocked q before t ≡ true → Stands peak q before connection
        → Stands peak q after then_
    carry one t within is (ByMessage some) = message one t within is some
    carry one t within is (ByPermit some) = ByPermit (permit some)
    carry one t within is (ByAwake other under now) = ByAwake other under (awake other now)
    carry one t within is (ByTimer other m under now few) =
        ByTimer other m under (due other m now) few

module _ (latches : Latches) (client : Client) where
  pub count_relatched : (q : ChannelOf)
      → (latches.entries q).registered ≡ (client.session.latches.entries q).registered
      → IsCounted q client → IsCounted q (relatched latches client)
  count_relatched q same =
      counts_same client (relatched latches client) q
      (λ t. seen_alike (registered_with q) (registered_local q) client (relatched latches client) t
      (waiter_in client t) refl refl refl) same

  pub place_relatched : ((q : ChannelOf) → is_subscribed (latches.entries q)
      ≡ is_subscribed (client.session.latches.entries q))
      → (t : ℕ) → t ≤ thread_limit → PlacedIn client t → PlacedIn (relatched latches client) t
  place_relatched heard t within =
      placed_on client (relatched latches client) t within refl refl (λ q there stays. heard q)

  pub answer_relatched : (t : ℕ) → HasReplyIfAsked client t
      → HasReplyIfAsked (relatched latches client) t
  answer_relatched t answered = record { without = answered.without }

  pub cover_relatched : (peak : ℕ) (q : ChannelOf) (connection then_ : Connection)
      → (0 < (client.session.latches.entries q).permits → 0 < (latches.entries q).permits)
      → (wakes_one_of_many q.kind ≡ true → (t : ℕ) → t ≤ thread_limit → is_blocked q client t ≡ true
      → in_flight q connection.outbox ≡ true → Stands peak q (relatched latches client) then_)
      → IsCovered peak q client connection → IsCovered peak q (relatched latches client) then_
  cover_relatched peak q connection then_ =
      cover_threads peak q client (relatched latches client) connection then_
      (λ t blocked.
      sym
      (seen_alike (blocked_with q) (blocked_local q) client (relatched latches client) t
      (waiter_in client t) refl refl refl)
      ∙ blocked)
      (λ t awake.
      seen_alike (awake_with q) (awake_local q) client (relatched latches client) t
      (waiter_in client t) refl refl refl
      ∙ awake)
      (λ t m due.
      seen_alike (due_with q) (due_local q) client (relatched latches client) t
      (waiter_in client t) refl refl refl
      ∙ due)
