-- What is registered stays counted at each change.
use Rattle.std.proofs.Common.{◌≡◌, ℕ, ◌+◌, ◌≤◌, Bool, true, false, ◌&&◌, Option, Some, None, refl, ap, sym, ◌∙◌, arith}
use Rattle.lr_limits.specs.Limits.{thread_limit}
use Rattle.lr_names.specs.Channel.{ChannelOf, channel_wakes}
use Rattle.lr_objects.specs.declared.reply.Reply.{Reply}
use Rattle.lr_waiting.specs.declared.latch.LatchEntry.{LatchEntry}
use Rattle.lr_waiting.specs.declared.waiter.Stage.{Stage}
use Rattle.lr_waiting.specs.declared.waiter.Waiter.{Waiter}
use Rattle.lr_model.specs.Board.{same_channel}
use Rattle.lr_waiting.specs.Latch.{leave_in, register_in}
use Rattle.lr_waiting.specs.Session.{at_stage, channel_in, channel_for, owner_in}
use Rattle.lr_waiting.specs.Stand.{waits_at}
use Rattle.lr_model.proofs.SameChannel.{same_is}
use Rattle.lr_waiting.specs.Client.{Client, waiter_in}
use Rattle.lr_wakeups.specs.Counting.{one_if}
use Rattle.lr_wakeups.specs.Registered.{registered_with, is_registered, registered_on, IsCounted}
use Rattle.lr_wakeups.proofs.Counts.{count_changed, count_same, count_some, count_two}
use Rattle.lr_wakeups.proofs.EntryChanges.{ChangesEntry, registered_left, registered_in}
use Rattle.lr_wakeups.proofs.Threads.{ChangesThread, alone, registered_local, seen_there, seen_here}

-- a thread that is registered is counted
pub counts_one : (channel : ChannelOf) (client : Client) (thread : ℕ) → thread ≤ thread_limit
    → IsCounted channel client → is_registered channel client thread ≡ true
    → 1 ≤ (client.session.latches.entries channel).registered
counts_one channel client thread within counted here =
    let some = count_some (thread_limit + 1) (is_registered channel client) thread
    (omega (arith, within)) here in
    omega (arith, some, counted.count)

pub counts_two : (channel : ChannelOf) (client : Client) (thread other : ℕ)
    → thread ≤ thread_limit → other ≤ thread_limit → (other ≡ thread → ⊥)
    → IsCounted channel client → is_registered channel client thread ≡ true
    → is_registered channel client other ≡ true
    → 2 ≤ (client.session.latches.entries channel).registered
counts_two channel client thread other within also apart counted here there =
    let some = count_two (thread_limit + 1) (is_registered channel client) thread other
    (omega (arith, within)) (omega (arith, also)) apart here there in
    omega (arith, some, counted.count)

-- a thread registers, leaves, or stays
pub counts_changed : (thread : ℕ) (found : Option Waiter) (reply : Option Reply)
    (before after : Client) → ChangesThread thread found reply before after
    → thread ≤ thread_limit → (channel : ChannelOf) (old new : Bool)
    → is_registered channel before thread ≡ old
    → registered_with channel (alone before.session.client reply) thread found ≡ new
    → (after.session.latches.entries channel).registered + one_if old
    ≡ (before.session.latches.entries channel).registered + one_if new
    → IsCounted channel before → IsCounted channel after
counts_changed thread found reply before after changes within channel old new was now registered counted =
    record { count = omega (arith, counted.count, registered, changed, from, to) }
  where
    changed : registered_on channel after + one_if (is_registered channel before thread)
        ≡ registered_on channel before + one_if (is_registered channel after thread)
    changed = count_changed (thread_limit + 1) (is_registered channel before)
        (is_registered channel after) thread (omega (arith, within))
        (λ t below apart.
        seen_there thread found reply before after changes (registered_with channel)
        (registered_local channel) t apart)

    from : one_if (is_registered channel before thread) ≡ one_if old
    from = ap one_if was

    to : one_if (is_registered channel after thread) ≡ one_if new
    to = ap one_if
        (seen_here thread found reply before after changes (registered_with channel)
        (registered_local channel) ∙ now)

-- all threads stay as registered as they were
pub counts_same : (before after : Client) (channel : ChannelOf)
    → ((t : ℕ) → is_registered channel after t ≡ is_registered channel before t)
    → (after.session.latches.entries channel).registered
    ≡ (before.session.latches.entries channel).registered
    → IsCounted channel before → IsCounted channel after
counts_same before after channel same registered counted =
    let all = count_same (thread_limit + 1) (is_registered channel before)
    (is_registered channel after) (λ t below. same t) in
    record { count = registered ∙ counted.count ∙ sym all }

-- The changes of one thread.

module _ (thread : ℕ) (reply : Option Reply) (before after : Client) (within : thread ≤ thread_limit)
  where
    -- a request begins: it isn't registered
    pub count_begun : (waiter : Waiter) → ChangesThread thread (Some waiter) reply before after
        → waiter_in before thread ≡ None → waiter.registered ≡ false → (channel : ChannelOf)
        → (after.session.latches.entries channel).registered
        ≡ (before.session.latches.entries channel).registered
        → IsCounted channel before → IsCounted channel after
    count_begun waiter changes idle outside channel same counted =
        counts_changed thread (Some waiter) reply before after changes within channel false false
        (ap (registered_with channel before thread) idle)
        (ap (λ b. b && same_channel channel (channel_in before.session thread waiter)) outside)
        (ap (λ n. n + 0) same) counted

    module _ (waiter : Waiter) (was : waiter_in before thread ≡ Some waiter) where
      -- a request comes to another stage
      pub count_restaged : (stage : Stage)
          → ChangesThread thread (Some (at_stage stage waiter)) reply before after
          → (channel : ChannelOf)
          → (after.session.latches.entries channel).registered
          ≡ (before.session.latches.entries channel).registered
          → IsCounted channel before → IsCounted channel after
      count_restaged stage changes channel same counted =
          counts_changed thread (Some (at_stage stage waiter)) reply before after changes within
          channel (waits_at channel before thread waiter) (waits_at channel before thread waiter)
          (ap (registered_with channel before thread) was) refl
          (ap (λ n. n + one_if (waits_at channel before thread waiter)) same) counted

      -- one ends that isn't registered
      pub count_ended : ChangesThread thread None reply before after → waiter.registered ≡ false
          → (channel : ChannelOf)
          → (after.session.latches.entries channel).registered
          ≡ (before.session.latches.entries channel).registered
          → IsCounted channel before → IsCounted channel after
      count_ended changes outside channel same counted =
          counts_changed thread None reply before after changes within channel false false
          (ap (registered_with channel before thread) was
          ∙ ap (λ b. b && same_channel channel (channel_in before.session thread waiter)) outside)
          refl (ap (λ n. n + 0) same) counted

      -- one that is
      pub count_left : ChangesThread thread None reply before after → waiter.registered ≡ true
          → ChangesEntry (channel_in before.session thread waiter)
          (leave_in (channel_wakes (channel_in before.session thread waiter).kind)
          (before.session.latches.entries (channel_in before.session thread waiter)))
          before.session.latches.entries after.session.latches.entries
          → ((channel : ChannelOf) → IsCounted channel before)
          → (channel : ChannelOf) → IsCounted channel after
      count_left changes inside entry counted channel = by (same_channel channel c) refl
        where
          c : ChannelOf
          c = channel_in before.session thread waiter

          is : (same : Bool) → same_channel channel (channel_in before.session thread waiter) ≡ same
              → is_registered channel before thread ≡ same
          is same e = ap (registered_with channel before thread) was
              ∙ (λ i. inside i && e i)

          by : (same : Bool)
              → same_channel channel (channel_in before.session thread waiter) ≡ same
              → IsCounted channel after
          by true e =
              let here : channel ≡ channel_in before.session thread waiter =
              same_is channel (channel_in before.session thread waiter) e in
              let left = ap (λ q. (after.session.latches.entries q).registered) here
              ∙ ap (λ (x : LatchEntry). x.registered) entry.here
              ∙ registered_left
              (channel_wakes (channel_in before.session thread waiter).kind)
              (before.session.latches.entries (channel_in before.session thread waiter)) in
              let old = ap (λ q. (before.session.latches.entries q).registered) here in
              let one = counts_one channel before thread within (counted channel) (is true e) in
              counts_changed thread None reply before after changes within channel true false
              (is true e) refl (omega (arith, left, old, one)) (counted channel)
          by false e =
              counts_changed thread None reply before after changes within channel false false
              (is false e) refl
              (ap (λ (x : LatchEntry). x.registered + 0) (entry.there channel e))
              (counted channel)

      -- one registers
      pub count_registered : (joined : Waiter)
          → ChangesThread thread (Some joined) reply before after
          → waiter.registered ≡ false → joined.registered ≡ true → joined.want ≡ waiter.want
          → ChangesEntry (channel_in before.session thread waiter)
          (register_in (before.session.latches.entries (channel_in before.session thread waiter)))
          before.session.latches.entries after.session.latches.entries
          → (channel : ChannelOf) → IsCounted channel before → IsCounted channel after
      count_registered joined changes outside inside want entry channel counted =
          by (same_channel channel (channel_in before.session thread waiter)) refl
        where
          was_not : is_registered channel before thread ≡ false
          was_not = ap (registered_with channel before thread) was
              ∙ ap (λ b. b && same_channel channel (channel_in before.session thread waiter)) outside

          now : (same : Bool) → same_channel channel (channel_in before.session thread waiter) ≡ same
              → registered_with channel (alone before.session.client reply) thread (Some joined) ≡ same
          now same e =
              (λ i. inside i
              && same_channel channel (channel_for (owner_in before.session thread) (want i)))
              ∙ e

          by : (same : Bool)
              → same_channel channel (channel_in before.session thread waiter) ≡ same
              → IsCounted channel after
          by true e =
              let here : channel ≡ channel_in before.session thread waiter =
              same_is channel (channel_in before.session thread waiter) e in
              let more = ap (λ q. (after.session.latches.entries q).registered) here
              ∙ ap (λ (x : LatchEntry). x.registered) entry.here
              ∙ registered_in
              (before.session.latches.entries (channel_in before.session thread waiter)) in
              let old = ap (λ q. (before.session.latches.entries q).registered) here in
              counts_changed thread (Some joined) reply before after changes within channel false true
              was_not (now true e) (omega (arith, more, old)) counted
          by false e =
              counts_changed thread (Some joined) reply before after changes within channel false false
              was_not (now false e)
              (ap (λ (x : LatchEntry). x.registered + 0) (entry.there channel e)) counted
