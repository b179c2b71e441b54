-- All facts after what the server does: it executes an order, an item comes, a message is sent; and
-- after a cut.
use Rattle.std.proofs.Common.{◌≡◌, ℕ, zero, suc, ◌+◌, ◌<◌, ◌≤◌, ◌^◌, nat_lt, List, [], ◌∷◌, drop, slice_get, Bool, true, false, not, ◌&&◌, ◌||◌, Option, Some, None, refl, ap, sym, ◌∙◌, subst, arith, if◌then◌else◌, inl, inr}
use Rattle.std.specs.List.{list_any}
use Rattle.std.proofs.lemmas.Bool.{and_parts, and_from, false≢true, ne_eqb}
use Rattle.std.proofs.lemmas.List.Folds.{list_any-append}
use Rattle.std.proofs.lemmas.Option.{same_Some}
use Rattle.lr_limits.specs.Limits.{thread_limit}
use Rattle.lr_names.specs.Channel.{ChannelOf, channel_wakes, is_fair}
use Rattle.lr_names.specs.declared.kind.Wakes.{Wakes}
use Rattle.lr_names.specs.declared.kind.Wakes.TheVariants.{One, All}
use Rattle.lr_names.specs.declared.post.Post.{Post}
use Rattle.lr_names.specs.declared.post.Push.{Push}
use Rattle.lr_names.specs.declared.post.Push.TheVariants.{Subscribed, Unsubscribed, Message}
use Rattle.lr_waiting.specs.declared.latch.LatchEntry.{LatchEntry}
use Rattle.lr_waiting.specs.declared.latch.Order.{Order}
use Rattle.lr_waiting.specs.declared.waiter.Stage.{Stage}
use Rattle.lr_waiting.specs.declared.waiter.Stage.TheVariants.{Joining}
use Rattle.lr_waiting.specs.declared.waiter.Waiter.{Waiter}
use Rattle.lr_objects.specs.declared.kinds.Function.{Function}
use Rattle.lr_objects.specs.declared.reply.Reply.{Reply}
use Rattle.lr_model.specs.Board.{same_channel, Connection, has_channel, has_room, is_overrun, closed_connection, dropped_connection, with_item, connection_after_post, connection_after_drain}
use Rattle.lr_waiting.specs.Latch.{Latches, no_entry, is_subscribed, acknowledge_in, acknowledge_at, deliver_in, deliver_at, first_order_of, without_first_order}
use Rattle.lr_waiting.specs.Session.{with_latches, with_joined, pushed, acknowledged, order_taken, channel_in, is_joining_at}
use Rattle.lr_waiting.specs.Client.{Client, waiter_in, new_client, cut_client}
use Rattle.lr_waiting.specs.Stand.{in_flight, is_message_on}
use Rattle.lr_model.proofs.SameChannel.{same_is, same_self}
use Rattle.lr_wakeups.specs.Counting.{count_below}
use Rattle.lr_wakeups.specs.Outstanding.{IsAccounted}
use Rattle.lr_wakeups.specs.Orders.{OrdersMatch, IsHeard, connection_after_order}
use Rattle.lr_wakeups.specs.Joining.{gives_up_at, PlacedWith, PlacedIn}
use Rattle.lr_wakeups.specs.Standing.{wakes_one_of_many, is_blocked_at, blocked_with, is_blocked, Stands, IsCovered, ByMessage, ByPermit, ByAwake, ByTimer}
use Rattle.lr_wakeups.specs.Registered.{registered_with, is_registered}
use Rattle.lr_wakeups.specs.Reached.{Present, ReachedWith, GoesOn, seen_at}
use Rattle.lr_wakeups.specs.Queued.{QueuedWith, QueueGoesOn, NobodyIsBlocked}
use Rattle.lr_wakeups.specs.Facts.{Facts}
use Rattle.lr_wakeups.proofs.Entries.{delivered_by}
use Rattle.lr_wakeups.proofs.Outstanding.{unacknowledged}
use Rattle.lr_wakeups.proofs.Heard.{is_heard}
use Rattle.lr_wakeups.proofs.ChannelFacts.{order_for}
use Rattle.lr_wakeups.proofs.EntryChanges.{ChangesEntry, entry_put, by_channel, registered_acknowledged, permits_acknowledged, registered_delivered, heard_delivered, permit_delivered}
use Rattle.lr_wakeups.proofs.LatchFacts.{LatchFacts, latch_facts_at_start, latch_facts_later, latch_facts_posted, latch_facts_executed, latch_facts_acknowledged, latch_facts_unsubscribed, latch_facts_delivered}
use Rattle.lr_wakeups.proofs.Registered.{counts_same, counts_one}
use Rattle.lr_wakeups.proofs.Answered.{answered_same}
use Rattle.lr_wakeups.proofs.Standing.{blocked_registered, covered_alike}
use Rattle.lr_wakeups.proofs.Joined.{joined_client, joined_registered, joined_blocked, joined_awake, joined_due, joined_asked, joined_placed, joined_reached, joined_queued}
use Rattle.lr_wakeups.proofs.Relatched.{relatched, cover_threads, count_relatched, place_relatched, answer_relatched, cover_relatched}
use Rattle.lr_wakeups.proofs.Reached.{number_acknowledged, number_delivered, number_handed_on, few_acknowledged, few_delivered, reached_moved, reached_later, reached_there}
use Rattle.lr_wakeups.proofs.FairChannels.{wakes_one, fair_wakes_one}
use Rattle.lr_wakeups.proofs.Queued.{Tells, refused_stays, queued_there, blocked_there, queued_goes_on}
use Rattle.lr_wakeups.proofs.Rows.{facts_later}
use Rattle.lr_wakeups.proofs.ThreadSteps.{latch_facts}

-- A thread that was refused hears its channel.

blocked_joins : (stage : Stage) (reply : Option Reply) (function : Function)
    → is_blocked_at stage reply function ≡ true → is_joining_at stage ≡ false
blocked_joins Joining reply function e = absurd (false≢true e)
blocked_joins _ reply function e = refl

heard_where_blocked : (client : Client) (q : ChannelOf) (thread : ℕ) → PlacedIn client thread
    → ((waiter : Waiter) → waiter_in client thread ≡ Some waiter
    → is_blocked_at waiter.stage (client.replies thread) waiter.want.function ≡ true
    → gives_up_at waiter.stage waiter.want.function ≡ false)
    → is_blocked q client thread ≡ true
    → is_subscribed (client.session.latches.entries q) ≡ true
heard_where_blocked client q thread placed stays =
    by (waiter_in client thread) refl placed.placed
  where
    true_of : (b : Bool) → false ≡ not b → b ≡ true
    true_of true e = refl
    true_of false e = absurd (false≢true e)

    by : (found : Option Waiter) → waiter_in client thread ≡ found
        → PlacedWith client.session thread found
        → blocked_with q client thread found ≡ true
        → is_subscribed (client.session.latches.entries q) ≡ true
    by None was p blocked = absurd (false≢true blocked)
    by (Some waiter) was p blocked =
        let parts = and_parts
        (waiter.registered && same_channel q (channel_in client.session thread waiter))
        (is_blocked_at waiter.stage (client.replies thread) waiter.want.function) blocked in
        let there = and_parts waiter.registered
        (same_channel q (channel_in client.session thread waiter)) parts.0 in
        ap (λ c. is_subscribed (client.session.latches.entries c))
        (same_is q (channel_in client.session thread waiter) there.1)
        ∙ true_of
        (is_subscribed (client.session.latches.entries (channel_in client.session thread waiter)))
        (sym
        (blocked_joins waiter.stage (client.replies thread) waiter.want.function parts.1)
        ∙ p.joining there.0 (stays waiter was parts.1))

-- what stands first in an outbox
first_item : (box : List Push) (push : Push) → slice_get box 0 ≡ Some push
    → box ≡ push ∷ drop 1 box
first_item [] push e = absurd (none_some e)
  where
    none_some : None ≡ Some push → ⊥
    none_some f = absurd (cc f)
first_item (item ∷ box) push e = ap (λ p. p ∷ box) (same_Some item push e)

one_all : One ≡ All → ⊥
one_all e = absurd (cc e)

-- what goes on, and isn't so afterwards, wasn't so
unless_on : (was is : Bool) → (was ≡ true → is ≡ true) → is ≡ false → was ≡ false
unless_on true is on off = absurd (false≢true (sym off ∙ on refl))
unless_on false is on off = refl

module _ (n : ℕ) (present : Present) (client : Client) (connection : Connection)
    (facts : Facts n present client connection) where
  -- what a message stood by is among the rest, or was the first item
  flying : (q : ChannelOf) (push : Push) (rest : List Push) → connection.outbox ≡ push ∷ rest
      → is_message_on q push ≡ false → in_flight q connection.outbox ≡ true
      → in_flight q rest ≡ true
  flying q push rest first other flies =
      ap (λ b. b || in_flight q rest) (sym other) ∙ sym (ap (in_flight q) first) ∙ flies

  -- a message that isn't on its way afterwards wasn't before, or was that item
  silent_before : (push : Push) (rest : List Push) → connection.outbox ≡ push ∷ rest
      → ((q : ChannelOf) → is_message_on q push ≡ false) → (q : ChannelOf)
      → in_flight q rest ≡ false → in_flight q connection.outbox ≡ false
  silent_before push rest first other q quiet =
      ap (in_flight q) first ∙ ap (λ b. b || in_flight q rest) (other q) ∙ quiet

  -- what was told is told, where what is on its way stays so, and where there is a permit
  told_on : (q : ChannelOf) (rest : List Push) (entry : LatchEntry)
      → (in_flight q connection.outbox ≡ true → in_flight q rest ≡ true)
      → (0 < (client.session.latches.entries q).permits → 0 < entry.permits)
      → Tells connection.outbox (client.session.latches.entries q) q → Tells rest entry q
  told_on q rest entry flies permit (inl was) = inl (flies was)
  told_on q rest entry flies permit (inr some) = inr (permit some)

  -- a thread that was refused doesn't give its place up
  stays_refused : (t : ℕ) → t ≤ thread_limit → (waiter : Waiter)
      → waiter_in client t ≡ Some waiter
      → is_blocked_at waiter.stage (client.replies t) waiter.want.function ≡ true
      → gives_up_at waiter.stage waiter.want.function ≡ false
  stays_refused t within waiter was =
      refused_stays present client.session.client t client.session.latches.entries
      connection.outbox (client.replies t) waiter
      (subst
      (QueuedWith present client.session.client client.session.latches.entries
      connection.outbox t (client.replies t))
      was (facts.queued t within))

  -- an order to leave a channel was acknowledged
  unsubscribed_comes : (channel : Option ChannelOf) (count : ℕ) (rest : List Push)
      → connection.outbox ≡ Unsubscribed channel count ∷ rest
      → Facts n present client (record connection { outbox = rest })
  unsubscribed_comes channel count rest first = record {
    accounted = latched.accounted;
    matched = latched.matched;
    bounded = facts.bounded;
    counted = facts.counted;
    placed = facts.placed;
    answered = facts.answered;
    covered = λ q.
        cover_threads (present.peak q) q client client connection (record connection { outbox = rest })
        (λ t blocked. blocked) (λ t awake. awake) (λ t m due. due) (λ some. some)
        (λ one t within blocked flies.
        ByMessage (flying q (Unsubscribed channel count) rest first refl flies))
        (facts.covered q);
    few = facts.few;
    reached = λ t within.
        reached_there present client client.session.latches.entries connection.outbox rest t
        (λ q there. refl) (silent_before (Unsubscribed channel count) rest first (λ q. refl))
        (waiter_in client t) refl (facts.reached t within);
    queued = λ t within.
        queued_there present client client.session.latches.entries connection.outbox rest t
        (λ q there fair.
        told_on q rest (client.session.latches.entries q)
        (flying q (Unsubscribed channel count) rest first refl) (λ some. some))
        (waiter_in client t) refl (facts.queued t within);
  }
    where
      latched : LatchFacts n client.session.latches (record connection { outbox = rest })
      latched =
          latch_facts_unsubscribed n client.session.latches connection rest
          (latch_facts n present client connection facts) channel count first

  -- a message comes
  message_comes : (channel : ChannelOf) (wakes : Wakes) (rest : List Push) → suc n < 2 ^ 64
      → connection.outbox ≡ Message channel wakes ∷ rest
      → Facts (suc n) present (relatched (deliver_at channel client.session.latches) client)
      (record connection { outbox = rest })
  message_comes channel wakes rest bound first = record {
    accounted = latched.accounted;
    matched = latched.matched;
    bounded = latched.bounded;
    counted = λ q. count_relatched latches client q (registered q) (facts.counted q);
    placed = λ t within. place_relatched latches client heard t within (facts.placed t within);
    answered = λ t. answer_relatched latches client t (facts.answered t);
    covered = λ q.
        cover_relatched latches client (present.peak q) q connection (record connection { outbox = rest })
        (permits q) (message q) (facts.covered q);
    few = few;
    reached = λ t within. hears t within (waiter_in client t) refl (facts.reached t within);
    queued = λ t within.
        queued_there present client (deliver_at channel client.session.latches).entries
        connection.outbox rest t (told t within) (waiter_in client t) refl
        (facts.queued t within);
  }
    where
      latches : Latches
      latches = deliver_at channel client.session.latches

      latched : LatchFacts (suc n) (deliver_at channel client.session.latches)
          (record connection { outbox = rest })
      latched =
          latch_facts_later n (deliver_at channel client.session.latches)
          (record connection { outbox = rest })
          (latch_facts_delivered n client.session.latches connection rest
          (latch_facts n present client connection facts) channel wakes first)

      entry : ChangesEntry channel
          (deliver_in (channel_wakes channel.kind) (client.session.latches.entries channel))
          client.session.latches.entries
          (deliver_at channel client.session.latches).entries
      entry = entry_put channel
          (deliver_in (channel_wakes channel.kind) (client.session.latches.entries channel))
          client.session.latches.entries

      registered : (q : ChannelOf)
          → ((deliver_at channel client.session.latches).entries q).registered
          ≡ (client.session.latches.entries q).registered
      registered =
          by_channel (λ q x. x.registered ≡ (client.session.latches.entries q).registered) channel
          (deliver_in (channel_wakes channel.kind) (client.session.latches.entries channel))
          client.session.latches.entries (deliver_at channel client.session.latches).entries entry
          (registered_delivered (channel_wakes channel.kind)
          (client.session.latches.entries channel))
          (λ q other. refl)

      heard : (q : ChannelOf)
          → is_subscribed ((deliver_at channel client.session.latches).entries q)
          ≡ is_subscribed (client.session.latches.entries q)
      heard =
          by_channel (λ q x. is_subscribed x ≡ is_subscribed (client.session.latches.entries q))
          channel
          (deliver_in (channel_wakes channel.kind) (client.session.latches.entries channel))
          client.session.latches.entries (deliver_at channel client.session.latches).entries entry
          (heard_delivered (channel_wakes channel.kind) (client.session.latches.entries channel))
          (λ q other. refl)

      some_wait : (e : LatchEntry) → 0 < e.permits → e.permits ≤ e.registered → 1 ≤ e.registered
      some_wait e some few = omega (arith, some, few)

      permit_there : (wakes_ : Wakes) (e : LatchEntry) → e.permits ≤ e.registered
          → 0 < e.permits → 0 < (deliver_in wakes_ e).permits
      permit_there One e few some = permit_delivered e (some_wait e some few)
      permit_there All e few some =
          delivered_by (λ x. 0 < x.permits) All e (λ none. some) (λ more. some)

      permits : (q : ChannelOf) → 0 < (client.session.latches.entries q).permits
          → 0 < ((deliver_at channel client.session.latches).entries q).permits
      permits =
          by_channel
          (λ q x. 0 < (client.session.latches.entries q).permits → 0 < x.permits) channel
          (deliver_in (channel_wakes channel.kind) (client.session.latches.entries channel))
          client.session.latches.entries (deliver_at channel client.session.latches).entries entry
          (permit_there (channel_wakes channel.kind) (client.session.latches.entries channel)
          (facts.bounded channel).few)
          (λ q other some. some)

      -- where threads wait and a message wakes one, there is a permit then
      permit_here : (t : ℕ) → t ≤ thread_limit → (q : ChannelOf) → q ≡ channel
          → channel_wakes q.kind ≡ One → is_registered q client t ≡ true
          → 0 < ((deliver_at channel client.session.latches).entries q).permits
      permit_here t within q is one there =
          let waits = counts_one q client t within (facts.counted q) there in
          let here : (deliver_at channel client.session.latches).entries q
          ≡ deliver_in One (client.session.latches.entries q) =
          ap (deliver_at channel client.session.latches).entries is ∙ entry.here
          ∙ ap (λ (c : ChannelOf). deliver_in (channel_wakes c.kind)
          (client.session.latches.entries c)) (sym is)
          ∙ ap (λ w. deliver_in w (client.session.latches.entries q)) one in
          subst (λ (x : LatchEntry). 0 < x.permits) (sym here)
          (permit_delivered (client.session.latches.entries q) waits)

      message : (q : ChannelOf) → wakes_one_of_many q.kind ≡ true → (t : ℕ) → t ≤ thread_limit
          → is_blocked q client t ≡ true → in_flight q connection.outbox ≡ true
          → Stands (present.peak q) q (relatched (deliver_at channel client.session.latches) client)
          (record connection { outbox = rest })
      message q one t within blocked flies = by (same_channel q channel) refl
        where
          by : (b : Bool) → same_channel q channel ≡ b
              → Stands (present.peak q) q (relatched (deliver_at channel client.session.latches) client)
              (record connection { outbox = rest })
          by false e = ByMessage (flying q (Message channel wakes) rest first e flies)
          by true e =
              let is : q ≡ channel = same_is q channel e in
              ByPermit
              (permit_here t within q is (wakes_one q.kind one)
              (blocked_registered q client t blocked))

      -- nor is a message lost to who waits for a fair lock
      told : (t : ℕ) → t ≤ thread_limit → (q : ChannelOf) → is_registered q client t ≡ true
          → is_fair q.kind ≡ true
          → Tells connection.outbox (client.session.latches.entries q) q
          → Tells rest ((deliver_at channel client.session.latches).entries q) q
      told t within q there fair = by (same_channel q channel) refl
        where
          by : (b : Bool) → same_channel q channel ≡ b
              → Tells connection.outbox (client.session.latches.entries q) q
              → Tells rest ((deliver_at channel client.session.latches).entries q) q
          by false e =
              told_on q rest ((deliver_at channel client.session.latches).entries q)
              (flying q (Message channel wakes) rest first e) (permits q)
          by true e =
              λ was. inr
              (permit_here t within q (same_is q channel e) (fair_wakes_one q.kind fair) there)

      few : (q : ChannelOf)
          → ((deliver_at channel client.session.latches).entries q).broadcast ≤ suc n
      few =
          by_channel (λ q x. x.broadcast ≤ suc n) channel
          (deliver_in (channel_wakes channel.kind) (client.session.latches.entries channel))
          client.session.latches.entries (deliver_at channel client.session.latches).entries entry
          (few_delivered n (channel_wakes channel.kind) (client.session.latches.entries channel)
          (facts.few channel) bound)
          (λ q other. omega (arith, facts.few q))

      -- the entry of a thread that waits there has one message more
      heard_here : (t : ℕ) → t ≤ thread_limit → (q : ChannelOf) → is_registered q client t ≡ true
          → same_channel q channel ≡ true → channel_wakes q.kind ≡ All
          → ((deliver_at channel client.session.latches).entries q).broadcast
          ≡ suc (client.session.latches.entries q).broadcast
      heard_here t within q there e all =
          let is : q ≡ channel = same_is q channel e in
          ap (λ c. ((deliver_at channel client.session.latches).entries c).broadcast) is
          ∙ ap (λ (x : LatchEntry). x.broadcast) entry.here
          ∙ ap (λ (c : ChannelOf). (deliver_in (channel_wakes c.kind)
          (client.session.latches.entries c)).broadcast) (sym is)
          ∙ ap (λ w. (deliver_in w (client.session.latches.entries q)).broadcast) all
          ∙ number_delivered n (client.session.latches.entries q) (facts.few q) bound
          (counts_one q client t within (facts.counted q) there)

      -- where a message wakes one, it is no other number
      handed_on : (q : ChannelOf) → channel_wakes q.kind ≡ One → same_channel q channel ≡ true
          → ((deliver_at channel client.session.latches).entries q).broadcast
          ≡ (client.session.latches.entries q).broadcast
      handed_on q one e =
          let is : q ≡ channel = same_is q channel e in
          ap (λ c. ((deliver_at channel client.session.latches).entries c).broadcast) is
          ∙ ap (λ (x : LatchEntry). x.broadcast) entry.here
          ∙ ap (λ (c : ChannelOf). (deliver_in (channel_wakes c.kind)
          (client.session.latches.entries c)).broadcast) (sym is)
          ∙ ap (λ w. (deliver_in w (client.session.latches.entries q)).broadcast) one
          ∙ number_handed_on (client.session.latches.entries q)

      hears : (t : ℕ) → t ≤ thread_limit → (found : Option Waiter) → waiter_in client t ≡ found
          → ReachedWith present client.session.client client.session.latches.entries
          connection.outbox t (client.replies t) found
          → ReachedWith present client.session.client
          (deliver_at channel client.session.latches).entries rest t (client.replies t) found
      hears t within None was reached = tt
      hears t within (Some waiter) was reached =
          by (same_channel q channel) refl (channel_wakes q.kind) refl
        where
          q : ChannelOf
          q = channel_in client.session t waiter

          number : ℕ
          number = ((deliver_at channel client.session.latches).entries
              (channel_in client.session t waiter)).broadcast

          there : waiter.registered ≡ true
              → is_registered (channel_in client.session t waiter) client t ≡ true
          there inside =
              ap (registered_with (channel_in client.session t waiter) client t) was
              ∙ and_from waiter.registered
              (same_channel (channel_in client.session t waiter)
              (channel_in client.session t waiter))
              inside (same_self (channel_in client.session t waiter))

          by : (b : Bool) → same_channel (channel_in client.session t waiter) channel ≡ b
              → (w : Wakes) → channel_wakes (channel_in client.session t waiter).kind ≡ w
              → ReachedWith present client.session.client
              (deliver_at channel client.session.latches).entries rest t (client.replies t)
              (Some waiter)
          by false e w f =
              reached_moved present client.session.client t client.session.latches.entries
              (deliver_at channel client.session.latches).entries connection.outbox rest
              (client.replies t) waiter
              (λ inside.
              ap (λ (x : LatchEntry). x.broadcast)
              (entry.there (channel_in client.session t waiter) e))
              (λ quiet.
              ap (in_flight (channel_in client.session t waiter)) first
              ∙ ap (λ b. b || in_flight (channel_in client.session t waiter) rest) e ∙ quiet)
              reached
          by true e One f = record {
            noted = λ inside.
                subst (λ k. seen_at waiter.stage ≤ k)
                (sym (handed_on (channel_in client.session t waiter) f e)) (reached.noted inside);
            waits = λ inside all blocked silent now. absurd (one_all (sym f ∙ all));
          }
          by true e All f = record {
            noted = λ inside.
                omega (
                  arith,
                  reached.noted inside,
                  heard_here t within (channel_in client.session t waiter) (there inside) e f,
                );
            waits = λ inside all blocked silent now.
                absurd
                (omega (
                  arith,
                  reached.noted inside,
                  now,
                  heard_here t within (channel_in client.session t waiter) (there inside) e f,
                ));
          }

  -- an order to subscribe was acknowledged
  module _ (channel : ChannelOf) (count : ℕ) (rest : List Push) (few : n < 2 ^ 64)
      (first : connection.outbox ≡ Subscribed channel count ∷ rest) where
    latched_acknowledged : LatchFacts n (acknowledge_at channel client.session.latches)
        (record connection { outbox = rest })
    latched_acknowledged =
        latch_facts_acknowledged n client.session.latches connection rest
        (latch_facts n present client connection facts) channel count few first

    entry_acknowledged : ChangesEntry channel
        (acknowledge_in (client.session.latches.entries channel)) client.session.latches.entries
        (acknowledge_at channel client.session.latches).entries
    entry_acknowledged =
        entry_put channel (acknowledge_in (client.session.latches.entries channel))
        client.session.latches.entries

    -- until now the client didn't hear the channel
    silent : is_subscribed (client.session.latches.entries channel) ≡ false
    silent =
        ap (λ b. nat_lt 0 (client.session.latches.entries channel).registered && b)
        (ne_eqb (client.session.latches.entries channel).acknowledged
        (client.session.latches.entries channel).sent
        (unacknowledged n channel (client.session.latches.entries channel)
        client.session.latches.orders rest count
        (subst
        (IsAccounted n channel (client.session.latches.entries channel)
        client.session.latches.orders) first (facts.accounted channel))))
        ∙ and_no (nat_lt 0 (client.session.latches.entries channel).registered)
      where
        and_no : (b : Bool) → (b && false) ≡ false
        and_no true = refl
        and_no false = refl

    registered_then : (q : ChannelOf)
        → ((acknowledge_at channel client.session.latches).entries q).registered
        ≡ (client.session.latches.entries q).registered
    registered_then =
        by_channel (λ q x. x.registered ≡ (client.session.latches.entries q).registered) channel
        (acknowledge_in (client.session.latches.entries channel)) client.session.latches.entries
        (acknowledge_at channel client.session.latches).entries entry_acknowledged
        (registered_acknowledged (client.session.latches.entries channel)) (λ q other. refl)

    permits_then : (q : ChannelOf) → 0 < (client.session.latches.entries q).permits
        → 0 < ((acknowledge_at channel client.session.latches).entries q).permits
    permits_then =
        by_channel (λ q x. 0 < (client.session.latches.entries q).permits → 0 < x.permits) channel
        (acknowledge_in (client.session.latches.entries channel)) client.session.latches.entries
        (acknowledge_at channel client.session.latches).entries entry_acknowledged
        (permits_acknowledged (client.session.latches.entries channel)
        (facts.bounded channel).few)
        (λ q other some. some)

    -- where threads wait, the number of messages stays
    number_then : (t : ℕ) → t ≤ thread_limit → (q : ChannelOf) → is_registered q client t ≡ true
        → ((acknowledge_at channel client.session.latches).entries q).broadcast
        ≡ (client.session.latches.entries q).broadcast
    number_then t within =
        by_channel
        (λ q x. is_registered q client t ≡ true
        → x.broadcast ≡ (client.session.latches.entries q).broadcast)
        channel (acknowledge_in (client.session.latches.entries channel))
        client.session.latches.entries (acknowledge_at channel client.session.latches).entries
        entry_acknowledged
        (λ there.
        number_acknowledged (client.session.latches.entries channel)
        (counts_one channel client t within (facts.counted channel) there))
        (λ q other there. refl)

    few_then : (q : ChannelOf)
        → ((acknowledge_at channel client.session.latches).entries q).broadcast ≤ n
    few_then =
        by_channel (λ q x. x.broadcast ≤ n) channel
        (acknowledge_in (client.session.latches.entries channel)) client.session.latches.entries
        (acknowledge_at channel client.session.latches).entries entry_acknowledged
        (few_acknowledged n (client.session.latches.entries channel) (facts.few channel))
        (λ q other. facts.few q)

    reached_then : (t : ℕ) → t ≤ thread_limit
        → ReachedWith present client.session.client
        (acknowledge_at channel client.session.latches).entries rest t (client.replies t)
        (waiter_in client t)
    reached_then t within =
        reached_there present client (acknowledge_at channel client.session.latches).entries
        connection.outbox rest t (number_then t within)
        (silent_before (Subscribed channel count) rest first (λ q. refl)) (waiter_in client t) refl
        (facts.reached t within)

    queued_then : (t : ℕ) → t ≤ thread_limit
        → QueuedWith present client.session.client
        (acknowledge_at channel client.session.latches).entries rest t (client.replies t)
        (waiter_in client t)
    queued_then t within =
        queued_there present client (acknowledge_at channel client.session.latches).entries
        connection.outbox rest t
        (λ q there fair.
        told_on q rest ((acknowledge_at channel client.session.latches).entries q)
        (flying q (Subscribed channel count) rest first refl) (permits_then q))
        (waiter_in client t) refl (facts.queued t within)

    acknowledged_comes : Facts n present
        (record client { session = acknowledged channel client.session })
        (record connection { outbox = rest })
    acknowledged_comes =
        by (is_subscribed (acknowledge_in (client.session.latches.entries channel))) refl
      where
        by : (hears : Bool)
            → is_subscribed (acknowledge_in (client.session.latches.entries channel)) ≡ hears
            → Facts n present
            (record client {
              session = if hears
                  then with_joined channel
                  (with_latches (acknowledge_at channel client.session.latches) client.session)
                  else with_latches (acknowledge_at channel client.session.latches) client.session;
            })
            (record connection { outbox = rest })
        by false e = record {
          accounted = latched_acknowledged.accounted;
          matched = latched_acknowledged.matched;
          bounded = latched_acknowledged.bounded;
          counted = λ q.
              count_relatched (acknowledge_at channel client.session.latches) client q
              (registered_then q) (facts.counted q);
          placed = λ t within.
              place_relatched (acknowledge_at channel client.session.latches) client
              (by_channel
              (λ q x. is_subscribed x ≡ is_subscribed (client.session.latches.entries q)) channel
              (acknowledge_in (client.session.latches.entries channel))
              client.session.latches.entries
              (acknowledge_at channel client.session.latches).entries entry_acknowledged
              (e ∙ sym silent) (λ q other. refl))
              t within (facts.placed t within);
          answered = λ t.
              answer_relatched (acknowledge_at channel client.session.latches) client t
              (facts.answered t);
          covered = λ q.
              cover_relatched (acknowledge_at channel client.session.latches) client (present.peak q) q
              connection (record connection { outbox = rest }) (permits_then q)
              (λ one t within blocked flies.
              ByMessage (flying q (Subscribed channel count) rest first refl flies))
              (facts.covered q);
          few = few_then;
          reached = reached_then;
          queued = queued_then;
        }
        by true e = record {
          accounted = latched_acknowledged.accounted;
          matched = latched_acknowledged.matched;
          bounded = latched_acknowledged.bounded;
          counted = λ q.
              counts_same client (joined_client channel client) q (joined_registered channel client q)
              (registered_then q) (facts.counted q);
          placed = λ t within.
              joined_placed channel client t within silent e entry_acknowledged
              (facts.placed t within);
          answered = answered_same client (joined_client channel client)
              (joined_asked channel client) (λ t. refl) facts.answered;
          covered = λ q.
              cover_threads (present.peak q) q client (joined_client channel client) connection
              (record connection { outbox = rest }) (joined_blocked channel client q)
              (joined_awake channel client q) (joined_due channel client q) (permits_then q)
              (λ one t within blocked flies.
              ByMessage (flying q (Subscribed channel count) rest first refl flies))
              (facts.covered q);
          few = few_then;
          reached = λ t within.
              joined_reached channel client present rest t (reached_then t within);
          queued = λ t within.
              joined_queued channel client present rest t (queued_then t within);
        }

  -- the client takes the oldest item
  pub facts_push : (push : Push) → suc n < 2 ^ 64 → slice_get connection.outbox 0 ≡ Some push
      → Facts (suc n) present (record client { session = pushed push client.session })
      (connection_after_drain 1 connection)
  facts_push push few at = by push (first_item connection.outbox push at)
    where
      by : (p : Push) → connection.outbox ≡ p ∷ drop 1 connection.outbox
          → Facts (suc n) present (record client { session = pushed p client.session })
          (connection_after_drain 1 connection)
      by (Subscribed channel count) first =
          facts_later n present _ (connection_after_drain 1 connection)
          (acknowledged_comes channel count (drop 1 connection.outbox) (omega (arith, few)) first)
      by (Unsubscribed channel count) first =
          facts_later n present client (connection_after_drain 1 connection)
          (unsubscribed_comes channel count (drop 1 connection.outbox) first)
      by (Message channel wakes) first =
          message_comes channel wakes (drop 1 connection.outbox) few first

  -- the server executes the oldest order
  pub facts_order : (order : Order) → first_order_of client.session.latches ≡ Some order
      → Facts n present (record client { session = order_taken client.session })
      (connection_after_order order connection)
  facts_order order at = by client.session.latches.orders refl at
    where
      -- what is on its way stays so
      flies_on : (subscribe : Bool) (c q : ChannelOf) → in_flight q connection.outbox ≡ true
          → in_flight q (connection_after_order (order_for subscribe c) connection).outbox ≡ true
      flies_on true c q flies =
          list_any-append (is_message_on q) connection.outbox _
          ∙ ap (λ b. b || (false || false)) flies
      flies_on false c q flies =
          list_any-append (is_message_on q) connection.outbox _
          ∙ ap (λ b. b || (false || false)) flies

      by : (orders : List Order) → client.session.latches.orders ≡ orders
          → slice_get orders 0 ≡ Some order
          → Facts n present (record client { session = order_taken client.session })
          (connection_after_order order connection)
      by [] e f = absurd (none_some f)
        where
          none_some : None ≡ Some order → ⊥
          none_some g = absurd (cc g)
      by (first ∷ rest) e f =
          subst
          (λ o. Facts n present (record client { session = order_taken client.session })
          (connection_after_order o connection))
          (same_Some first order f) executed
        where
          latched : LatchFacts n (without_first_order client.session.latches)
              (connection_after_order first connection)
          latched =
              subst
              (λ os. LatchFacts n
              (record { entries = client.session.latches.entries; orders = drop 1 os })
              (connection_after_order first connection))
              (sym e)
              (latch_facts_executed n client.session.latches.entries connection rest first.subscribe
              first.channel
              (subst
              (λ os. LatchFacts n
              (record { entries = client.session.latches.entries; orders = os }) connection)
              e (latch_facts n present client connection facts)))

          executed : Facts n present (record client { session = order_taken client.session })
              (connection_after_order first connection)
          executed = record {
            accounted = latched.accounted;
            matched = latched.matched;
            bounded = facts.bounded;
            counted = λ q.
                count_relatched (without_first_order client.session.latches) client q refl
                (facts.counted q);
            placed = λ t within.
                place_relatched (without_first_order client.session.latches) client (λ q. refl) t
                within (facts.placed t within);
            answered = λ t.
                answer_relatched (without_first_order client.session.latches) client t
                (facts.answered t);
            covered = λ q.
                cover_relatched (without_first_order client.session.latches) client (present.peak q) q
                connection (connection_after_order first connection) (λ some. some)
                (λ one t within blocked flies.
                ByMessage (flies_on first.subscribe first.channel q flies))
                (facts.covered q);
            few = facts.few;
            reached = λ t within.
                reached_there present client client.session.latches.entries connection.outbox
                (connection_after_order first connection).outbox t (λ q there. refl)
                (λ q quiet.
                unless_on (in_flight q connection.outbox)
                (in_flight q (connection_after_order first connection).outbox)
                (flies_on first.subscribe first.channel q) quiet)
                (waiter_in client t) refl (facts.reached t within);
            queued = λ t within.
                queued_there present client client.session.latches.entries connection.outbox
                (connection_after_order first connection).outbox t
                (λ q there fair.
                told_on q (connection_after_order first connection).outbox
                (client.session.latches.entries q) (flies_on first.subscribe first.channel q)
                (λ some. some))
                (waiter_in client t) refl (facts.queued t within);
          }

  -- A message is sent to a channel. On the others all goes on, and on this one a subscribed client
  -- has it on its way then.
  pub facts_post : (post : Post) (then_ : Present) (acts : ChannelOf → Bool)
      → is_overrun post connection ≡ false
      → GoesOn (λ q. same_channel q post.channel) present then_
      → QueueGoesOn (λ q. same_channel q post.channel) acts present then_
      → NobodyIsBlocked acts client
      → Facts n then_ client (connection_after_post post connection)
  facts_post post then_ acts room goes queue nobody = record {
    accounted = latched.accounted;
    matched = latched.matched;
    bounded = facts.bounded;
    counted = facts.counted;
    placed = facts.placed;
    answered = facts.answered;
    covered = covered;
    few = facts.few;
    reached = λ t within. reaches t within (waiter_in client t) refl (facts.reached t within);
    queued = λ t within.
        queued_goes_on present then_ (λ q. same_channel q post.channel) acts queue client nobody t
        within connection.outbox (connection_after_post post connection).outbox
        (λ q. told_blocked q t within) flies_on (waiter_in client t) refl
        (facts.queued t within);
  }
    where
      latched : LatchFacts n client.session.latches (connection_after_post post connection)
      latched =
          latch_facts_posted n client.session.latches connection
          (latch_facts n present client connection facts) post room

      -- what is on its way stays so
      flies_on : (q : ChannelOf) → in_flight q connection.outbox ≡ true
          → in_flight q (connection_after_post post connection).outbox ≡ true
      flies_on q flies = by (has_channel post.channel connection) (has_room connection) room
        where
          by : (has roomy : Bool) → (has && not roomy) ≡ false
              → in_flight q (if has then (if roomy
              then with_item (Message post.channel post.wakes) connection
              else dropped_connection connection) else connection).outbox ≡ true
          by false roomy e = flies
          by true true e =
              list_any-append (is_message_on q) connection.outbox _
              ∙ ap (λ b. b || (same_channel q post.channel || false)) flies
          by true false e = absurd (false≢true (sym e))

      -- on a channel that the connection has, the message is on its way then
      flies_now : has_channel post.channel connection ≡ true
          → in_flight post.channel (connection_after_post post connection).outbox ≡ true
      flies_now subscribed = by (has_channel post.channel connection) (has_room connection) subscribed room
        where
          or_true : (b : Bool) → (b || (true || false)) ≡ true
          or_true true = refl
          or_true false = refl

          by : (has roomy : Bool) → has ≡ true → (has && not roomy) ≡ false
              → in_flight post.channel (if has then (if roomy
              then with_item (Message post.channel post.wakes) connection
              else dropped_connection connection) else connection).outbox ≡ true
          by false roomy is e = absurd (false≢true is)
          by true true is e =
              list_any-append (is_message_on post.channel) connection.outbox _
              ∙ ap (λ b. in_flight post.channel connection.outbox || (b || false))
              (same_self post.channel)
              ∙ or_true (in_flight post.channel connection.outbox)
          by true false is e = absurd (false≢true (sym e))

      -- who was refused on that channel hears it, so the message is on its way
      told_blocked : (q : ChannelOf) (t : ℕ) → t ≤ thread_limit → is_blocked q client t ≡ true
          → same_channel q post.channel ≡ true
          → in_flight q (connection_after_post post connection).outbox ≡ true
      told_blocked q t within blocked e =
          ap (λ c. in_flight c (connection_after_post post connection).outbox)
          (same_is q post.channel e)
          ∙ flies_now
          (ap (λ c. has_channel c connection) (sym (same_is q post.channel e))
          ∙ (is_heard n q (client.session.latches.entries q) client.session.latches.orders
          (has_channel q connection) connection.outbox (facts.accounted q) (facts.matched q)
          (heard_where_blocked client q t (facts.placed t within) (stays_refused t within)
          blocked)).subscribed)

      raises : (q : ChannelOf) → present.peak q ≤ then_.peak q → Stands (present.peak q) q client connection
          → Stands (then_.peak q) q client (connection_after_post post connection)
      raises q more (ByMessage flies) = ByMessage (flies_on q flies)
      raises q more (ByPermit some) = ByPermit some
      raises q more (ByAwake t within awake) = ByAwake t within awake
      raises q more (ByTimer t m within due few) = ByTimer t m within due (omega (arith, few, more))

      covered : (q : ChannelOf)
          → IsCovered (then_.peak q) q client (connection_after_post post connection)
      covered q = by (same_channel q post.channel) refl
        where
          by : (b : Bool) → same_channel q post.channel ≡ b
              → IsCovered (then_.peak q) q client (connection_after_post post connection)
          by false e =
              covered_alike (present.peak q) (then_.peak q) q client client connection
              (connection_after_post post connection) (λ t blocked. blocked)
              (λ one t within blocked. raises q (goes.peaks q e)) (facts.covered q)
          by true e =
              covered_alike (present.peak q) (then_.peak q) q client client connection
              (connection_after_post post connection) (λ t blocked. blocked)
              (λ one t within blocked stood. ByMessage (told_blocked q t within blocked e))
              (facts.covered q)

      -- who waits on that channel and was refused is told
      told_then : (t : ℕ) → t ≤ thread_limit → (waiter : Waiter)
          → waiter_in client t ≡ Some waiter → waiter.registered ≡ true
          → is_blocked_at waiter.stage (client.replies t) waiter.want.function ≡ true
          → same_channel (channel_in client.session t waiter) post.channel ≡ true
          → in_flight (channel_in client.session t waiter)
          (connection_after_post post connection).outbox ≡ true
      told_then t within waiter was inside blocked e =
          told_blocked (channel_in client.session t waiter) t within
          (blocked_there client t waiter was inside blocked) e

      reaches : (t : ℕ) → t ≤ thread_limit → (found : Option Waiter) → waiter_in client t ≡ found
          → ReachedWith present client.session.client client.session.latches.entries
          connection.outbox t (client.replies t) found
          → ReachedWith then_ client.session.client client.session.latches.entries
          (connection_after_post post connection).outbox t (client.replies t) found
      reaches t within None was reached = tt
      reaches t within (Some waiter) was reached =
          by (same_channel (channel_in client.session t waiter) post.channel) refl
        where
          by : (b : Bool) → same_channel (channel_in client.session t waiter) post.channel ≡ b
              → ReachedWith then_ client.session.client client.session.latches.entries
              (connection_after_post post connection).outbox t (client.replies t) (Some waiter)
          by false e =
              reached_later present client.session.client t then_
              (λ q. same_channel q post.channel) goes client.session.latches.entries
              (connection_after_post post connection).outbox (client.replies t) waiter e
              (reached_moved present client.session.client t client.session.latches.entries
              client.session.latches.entries connection.outbox
              (connection_after_post post connection).outbox (client.replies t) waiter
              (λ inside. refl)
              (λ quiet.
              unless_on (in_flight (channel_in client.session t waiter) connection.outbox)
              (in_flight (channel_in client.session t waiter)
              (connection_after_post post connection).outbox)
              (flies_on (channel_in client.session t waiter)) quiet)
              reached)
          by true e = record {
            noted = reached.noted;
            waits = λ inside all blocked silent now.
                absurd (false≢true (sym silent ∙ told_then t within waiter was inside blocked e));
          }

  -- where the client hears a channel, all is told
  pub facts_heard : (channel : ChannelOf)
      → is_subscribed (client.session.latches.entries channel) ≡ true
      → IsHeard channel client.session.latches.orders (has_channel channel connection)
      connection.outbox
  facts_heard channel heard =
      is_heard n channel (client.session.latches.entries channel) client.session.latches.orders
      (has_channel channel connection) connection.outbox (facts.accounted channel)
      (facts.matched channel) heard

  -- all goes on
  pub facts_going_on : (then_ : Present) (acts : ChannelOf → Bool)
      → GoesOn (λ q. false) present then_
      → QueueGoesOn (λ q. false) acts present then_ → NobodyIsBlocked acts client
      → Facts n then_ client connection
  facts_going_on then_ acts goes queue nobody = record {
    accounted = facts.accounted;
    matched = facts.matched;
    bounded = facts.bounded;
    counted = facts.counted;
    placed = facts.placed;
    answered = facts.answered;
    covered = λ q.
        covered_alike (present.peak q) (then_.peak q) q client client connection connection
        (λ t blocked. blocked) (λ one t within blocked. raises q (goes.peaks q refl)) (facts.covered q);
    few = facts.few;
    reached = λ t within. reaches t (waiter_in client t) (facts.reached t within);
    queued = λ t within.
        queued_goes_on present then_ (λ q. false) acts queue client nobody t within
        connection.outbox connection.outbox (λ q blocked none. absurd (false≢true none))
        (λ q flies. flies) (waiter_in client t) refl (facts.queued t within);
  }
    where
      raises : (q : ChannelOf) → present.peak q ≤ then_.peak q → Stands (present.peak q) q client connection
          → Stands (then_.peak q) q client connection
      raises q more (ByMessage flies) = ByMessage flies
      raises q more (ByPermit some) = ByPermit some
      raises q more (ByAwake t within awake) = ByAwake t within awake
      raises q more (ByTimer t m within due few) = ByTimer t m within due (omega (arith, few, more))

      reaches : (t : ℕ) (found : Option Waiter)
          → ReachedWith present client.session.client client.session.latches.entries
          connection.outbox t (client.replies t) found
          → ReachedWith then_ client.session.client client.session.latches.entries
          connection.outbox t (client.replies t) found
      reaches t None reached = tt
      reaches t (Some waiter) reached =
          reached_later present client.session.client t then_ (λ q. false) goes
          client.session.latches.entries connection.outbox (client.replies t) waiter refl reached

-- A client without threads: at the start, and once it was cut off.

none_below : (n : ℕ) → 0 ≡ count_below n (λ t. false)
unfolding count_below
none_below zero = refl
none_below (suc n) = omega (arith, none_below n)

-- the facts of a client that was cut off, whose connection was closed
pub facts_cut : (n : ℕ) (present : Present) (client : Client)
    → Facts n present (cut_client client) closed_connection
facts_cut n present client = record {
  accounted = (latch_facts_at_start n).accounted;
  matched = (latch_facts_at_start n).matched;
  bounded = (latch_facts_at_start n).bounded;
  counted = λ q. record { count = none_below (thread_limit + 1) };
  placed = λ t within. record { placed = tt };
  answered = λ t. record { without = λ not_asked. refl };
  covered = λ q. record { stands = λ one t within blocked. absurd (false≢true blocked) };
  few = λ q. omega arith;
  reached = λ t within. tt;
  queued = λ t within. tt;
}

-- before its first request, whether its connection is open or not
pub facts_at_start : (n : ℕ) (present : Present) (id : List ℕ) (lease : ℕ)
    (connection : Connection) → connection.channels ≡ [] → connection.outbox ≡ []
    → Facts n present (new_client id lease) connection
facts_at_start n present id lease connection no_channels no_items = record {
  accounted = λ q.
      subst (IsAccounted n q no_entry []) (sym no_items) ((latch_facts_at_start n).accounted q);
  matched = λ q.
      subst (λ channels. OrdersMatch q no_entry [] (list_any (same_channel q) channels))
      (sym no_channels) ((latch_facts_at_start n).matched q);
  bounded = (latch_facts_at_start n).bounded;
  counted = λ q. record { count = none_below (thread_limit + 1) };
  placed = λ t within. record { placed = tt };
  answered = λ t. record { without = λ not_asked. refl };
  covered = λ q. record { stands = λ one t within blocked. absurd (false≢true blocked) };
  few = λ q. omega arith;
  reached = λ t within. tt;
  queued = λ t within. tt;
}
