-- What stands for those who were refused, at each change.
use Rattle.std.proofs.Common.{◌≡◌, ℕ, ◌<◌, ◌≤◌, Bool, true, false, not, ◌&&◌, Option, Some, None, refl, ap, sym, ◌∙◌, subst, if◌then◌else◌, ◌⊎◌, inl, inr}
use Rattle.std.proofs.lemmas.Bool.{and_parts, false≢true, cases_eq}
use Rattle.lr_limits.specs.Limits.{thread_limit}
use Rattle.lr_names.specs.Channel.{ChannelOf, channel_wakes}
use Rattle.lr_names.specs.declared.kind.Wakes.TheVariants.{One}
use Rattle.lr_objects.specs.Reply.{blocks}
use Rattle.lr_objects.specs.declared.reply.Reply.{Reply}
use Rattle.lr_waiting.specs.declared.latch.LatchEntry.{LatchEntry}
use Rattle.lr_waiting.specs.declared.waiter.Asking.{Asking}
use Rattle.lr_waiting.specs.declared.waiter.Stage.{Stage}
use Rattle.lr_waiting.specs.declared.waiter.Stage.TheVariants.{Asked}
use Rattle.lr_waiting.specs.declared.waiter.Waiter.{Waiter}
use Rattle.lr_model.specs.Board.{same_channel, Connection}
use Rattle.lr_waiting.specs.Latch.{leave_in}
use Rattle.lr_waiting.specs.Session.{at_stage, channel_in}
use Rattle.lr_waiting.specs.Client.{Client, waiter_in}
use Rattle.lr_waiting.specs.Stand.{waits_at, is_awake_at, awake_with, is_awake, due_at, due_by_reply, due_with, due_of}
use Rattle.lr_model.proofs.SameChannel.{same_is}
use Rattle.lr_wakeups.specs.Registered.{registered_with, is_registered, IsCounted}
use Rattle.lr_wakeups.specs.Standing.{wakes_one_of_many, is_blocked_at, blocked_with, is_blocked, Stands, IsCovered, ByMessage, ByPermit, ByAwake, ByTimer}
use Rattle.lr_wakeups.proofs.EntryChanges.{ChangesEntry, permit_left}
use Rattle.lr_wakeups.proofs.FairChannels.{wakes_one}
use Rattle.lr_wakeups.proofs.Registered.{counts_two}
use Rattle.lr_wakeups.proofs.Threads.{ChangesThread, alone, seen_there, seen_here, blocked_local, awake_local, due_local}

-- A thread that isn't registered at a channel neither stands nor is blocked there.

not_awake : (channel : ChannelOf) (client : Client) (thread : ℕ) (found : Option Waiter)
    → registered_with channel client thread found ≡ false
    → awake_with channel client thread found ≡ false
not_awake channel client thread None outside = refl
not_awake channel client thread (Some waiter) outside =
    ap (λ b. b && is_awake_at waiter.stage (client.replies thread) waiter.want.function) outside

not_due : (channel : ChannelOf) (client : Client) (thread : ℕ) (found : Option Waiter)
    → registered_with channel client thread found ≡ false
    → due_with channel client thread found ≡ None
not_due channel client thread None outside = refl
not_due channel client thread (Some waiter) outside =
    ap (λ b. if b then due_at waiter.stage (client.replies thread) else None) outside

pub blocked_registered : (channel : ChannelOf) (client : Client) (thread : ℕ)
    → is_blocked channel client thread ≡ true → is_registered channel client thread ≡ true
blocked_registered channel client thread = by (waiter_in client thread)
  where
    by : (found : Option Waiter) → blocked_with channel client thread found ≡ true
        → registered_with channel client thread found ≡ true
    by None blocked = blocked
    by (Some waiter) blocked =
        (and_parts (waits_at channel client thread waiter)
        (is_blocked_at waiter.stage (client.replies thread) waiter.want.function) blocked).0

none_some : (m : ℕ) → None ≡ Some m → ⊥
none_some m e = absurd (cc e)

-- A change of all threads, or of none: what stood stands.
pub covered_alike : (peak peak_then : ℕ) (channel : ChannelOf) (before after : Client)
    (connection then_ : Connection)
    → ((t : ℕ) → is_blocked channel after t ≡ true → is_blocked channel before t ≡ true)
    → (wakes_one_of_many channel.kind ≡ true → (t : ℕ) → t ≤ thread_limit
    → is_blocked channel before t ≡ true → Stands peak channel before connection
    → Stands peak_then channel after then_)
    → IsCovered peak channel before connection → IsCovered peak_then channel after then_
covered_alike peak peak_then channel before after connection then_ blocked carry covered = record {
  stands = λ one t within here.
      carry one t within (blocked t here) (covered.stands one t within (blocked t here));
}

module _ (thread : ℕ) (found : Option Waiter) (reply : Option Reply) (before after : Client)
    (changes : ChangesThread thread found reply before after) (peak : ℕ) (channel : ChannelOf)
    (connection : Connection) where
  abbrev StandsThen : Type 0
  StandsThen = Stands peak channel after connection

  -- one thread changes: what stood by another, or by a message, stands
  pub stands_changes : (0 < (before.session.latches.entries channel).permits → StandsThen)
      → (is_awake channel before thread ≡ true → StandsThen)
      → ((m : ℕ) → due_of channel before thread ≡ Some m → m ≤ peak → StandsThen)
      → Stands peak channel before connection → StandsThen
  stands_changes permit awake timer (ByMessage message) = ByMessage message
  stands_changes permit awake timer (ByPermit some) = permit some
  stands_changes permit awake timer (ByAwake t within is) = by (cases_eq t thread)
    where
      by : (t ≡ thread) ⊎ (t ≡ thread → ⊥) → StandsThen
      by (inl same) = awake (ap (is_awake channel before) (sym same) ∙ is)
      by (inr apart) =
          ByAwake t within
          (seen_there thread found reply before after changes (awake_with channel)
          (awake_local channel) t apart ∙ is)
  stands_changes permit awake timer (ByTimer t m within is few) = by (cases_eq t thread)
    where
      by : (t ≡ thread) ⊎ (t ≡ thread → ⊥) → StandsThen
      by (inl same) = timer m (ap (due_of channel before) (sym same) ∙ is) few
      by (inr apart) =
          ByTimer t m within
          (seen_there thread found reply before after changes (due_with channel)
          (due_local channel) t apart ∙ is) few

  pub covered_changes : (wakes_one_of_many channel.kind ≡ true
      → blocked_with channel (alone before.session.client reply) thread found ≡ true → StandsThen)
      → (wakes_one_of_many channel.kind ≡ true → Stands peak channel before connection → StandsThen)
      → IsCovered peak channel before connection → IsCovered peak channel after connection
  covered_changes own carry covered = record { stands = stands }
    where
      stands : wakes_one_of_many channel.kind ≡ true → (t : ℕ) → t ≤ thread_limit
          → is_blocked channel after t ≡ true → StandsThen
      stands one t within blocked = by (cases_eq t thread)
        where
          by : (t ≡ thread) ⊎ (t ≡ thread → ⊥) → StandsThen
          by (inl same) =
              own one
              (sym
              (seen_here thread found reply before after changes (blocked_with channel)
              (blocked_local channel))
              ∙ ap (is_blocked channel after) (sym same) ∙ blocked)
          by (inr apart) =
              carry one
              (covered.stands one t within
              (sym
              (seen_there thread found reply before after changes (blocked_with channel)
              (blocked_local channel) t apart)
              ∙ blocked))

  -- the thread wasn't registered at the channel, and isn't blocked there then
  pub cover_outside : is_registered channel before thread ≡ false
      → blocked_with channel (alone before.session.client reply) thread found ≡ false
      → (after.session.latches.entries channel).permits
      ≡ (before.session.latches.entries channel).permits
      → IsCovered peak channel before connection → IsCovered peak channel after connection
  cover_outside outside free permits =
      covered_changes (λ one blocked. absurd (false≢true (sym free ∙ blocked)))
      (λ one.
      stands_changes (λ some. ByPermit (subst (λ n. 0 < n) (sym permits) some))
      (λ awake.
      absurd
      (false≢true
      (sym (not_awake channel before thread (waiter_in before thread) outside) ∙ awake)))
      (λ m due few.
      absurd
      (none_some m (sym (not_due channel before thread (waiter_in before thread) outside) ∙ due))))

  -- the thread stands itself then
  pub cover_itself : (wakes_one_of_many channel.kind ≡ true → StandsThen)
      → IsCovered peak channel before connection → IsCovered peak channel after connection
  cover_itself stands = covered_changes (λ one blocked. stands one) (λ one before_. stands one)

-- The changes of one thread.

module _ (thread : ℕ) (reply : Option Reply) (before after : Client) (within : thread ≤ thread_limit)
    (peak : ℕ) (channel : ChannelOf) (connection : Connection) where
  -- a request that isn't registered begins
  pub cover_begun : (waiter : Waiter) → ChangesThread thread (Some waiter) reply before after
      → waiter_in before thread ≡ None → waiter.registered ≡ false
      → (after.session.latches.entries channel).permits
      ≡ (before.session.latches.entries channel).permits
      → IsCovered peak channel before connection → IsCovered peak channel after connection
  cover_begun waiter changes idle outside permits =
      cover_outside thread (Some waiter) reply before after changes peak channel connection
      (ap (registered_with channel before thread) idle)
      (ap
      (λ b. (b && same_channel channel (channel_in before.session thread waiter))
      && is_blocked_at waiter.stage reply waiter.want.function) outside)
      permits

  module _ (waiter : Waiter) (was : waiter_in before thread ≡ Some waiter) where
    -- whether it is registered at the channel
    abbrev here : Bool
    here = waits_at channel before thread waiter

    was_registered : is_registered channel before thread ≡ waits_at channel before thread waiter
    was_registered = ap (registered_with channel before thread) was

    -- it comes to another stage, in which it is awake
    pub cover_awake : (stage : Stage)
        → ChangesThread thread (Some (at_stage stage waiter)) reply before after
        → is_awake_at stage reply waiter.want.function ≡ true
        → (is_registered channel before thread ≡ false
        → (after.session.latches.entries channel).permits
        ≡ (before.session.latches.entries channel).permits)
        → IsCovered peak channel before connection → IsCovered peak channel after connection
    cover_awake stage changes awake permits = by (waits_at channel before thread waiter) refl
      where
        by : (b : Bool) → waits_at channel before thread waiter ≡ b
            → IsCovered peak channel before connection → IsCovered peak channel after connection
        by true e =
            cover_itself thread (Some (at_stage stage waiter)) reply before after changes peak
            channel connection
            (λ one.
            ByAwake thread within
            (seen_here thread (Some (at_stage stage waiter)) reply before after changes
            (awake_with channel) (awake_local channel)
            ∙ (λ i. e i && awake i)))
        by false e =
            cover_outside thread (Some (at_stage stage waiter)) reply before after changes peak
            channel connection (was_registered ∙ e)
            (ap (λ b. b && is_blocked_at stage reply waiter.want.function) e)
            (permits (was_registered ∙ e))

    -- it comes to another stage, and waits where no message wakes one of many
    pub cover_apart : (stage : Stage)
        → ChangesThread thread (Some (at_stage stage waiter)) reply before after
        → (waits_at channel before thread waiter ≡ true
        → wakes_one_of_many channel.kind ≡ false)
        → (after.session.latches.entries channel).permits
        ≡ (before.session.latches.entries channel).permits
        → IsCovered peak channel before connection → IsCovered peak channel after connection
    cover_apart stage changes apart permits = by (waits_at channel before thread waiter) refl
      where
        by : (b : Bool) → waits_at channel before thread waiter ≡ b
            → IsCovered peak channel before connection → IsCovered peak channel after connection
        by true e = λ covered. record {
          stands = λ one t under blocked. absurd (false≢true (sym (apart e) ∙ one));
        }
        by false e =
            cover_outside thread (Some (at_stage stage waiter)) reply before after changes peak
            channel connection (was_registered ∙ e)
            (ap (λ b. b && is_blocked_at stage reply waiter.want.function) e) permits

    -- it comes to another stage, and its timer stays
    pub cover_kept : (stage : Stage)
        → ChangesThread thread (Some (at_stage stage waiter)) reply before after
        → is_awake_at waiter.stage (before.replies thread) waiter.want.function ≡ false
        → is_blocked_at waiter.stage (before.replies thread) waiter.want.function ≡ true
        → due_at stage reply ≡ due_at waiter.stage (before.replies thread)
        → (after.session.latches.entries channel).permits
        ≡ (before.session.latches.entries channel).permits
        → IsCovered peak channel before connection → IsCovered peak channel after connection
    cover_kept stage changes asleep blocked due permits covered =
        covered_changes thread (Some (at_stage stage waiter)) reply before after changes peak
        channel connection
        (λ one now. carry (covered.stands one thread within (was_blocked now))) (λ one. carry)
        covered
      where
        was_blocked : (waits_at channel before thread waiter
            && is_blocked_at stage reply waiter.want.function) ≡ true
            → is_blocked channel before thread ≡ true
        was_blocked now =
            let parts = and_parts (waits_at channel before thread waiter)
            (is_blocked_at stage reply waiter.want.function) now in
            ap (blocked_with channel before thread) was ∙ (λ i. parts.0 i && blocked i)

        and_no : (b : Bool) → (b && false) ≡ false
        and_no true = refl
        and_no false = refl

        carry : Stands peak channel before connection → Stands peak channel after connection
        carry =
            stands_changes thread (Some (at_stage stage waiter)) reply before after changes peak
            channel connection (λ some. ByPermit (subst (λ n. 0 < n) (sym permits) some))
            (λ awake.
            absurd
            (false≢true
            (sym
            (ap (awake_with channel before thread) was
            ∙ ap (λ b. waits_at channel before thread waiter && b) asleep
            ∙ and_no (waits_at channel before thread waiter))
            ∙ awake)))
            (λ m is few.
            ByTimer thread m within
            (seen_here thread (Some (at_stage stage waiter)) reply before after changes
            (due_with channel) (due_local channel)
            ∙ ap (λ d. if waits_at channel before thread waiter then d else None) due
            ∙ sym (ap (due_with channel before thread) was) ∙ is)
            few)

    -- a reply comes for it: one that refuses it comes with a timer that isn't too late
    pub cover_answered : (asking : Asking) (answer : Reply)
        → waiter.stage ≡ Asked asking → reply ≡ Some answer
        → ChangesThread thread (Some waiter) reply before after
        → (blocks answer waiter.want.function ≡ true → wakes_one_of_many channel.kind ≡ true
        → waits_at channel before thread waiter ≡ true
        → (m : ℕ) × (due_by_reply asking.at (Some answer) ≡ Some m) × (m ≤ peak))
        → (after.session.latches.entries channel).permits
        ≡ (before.session.latches.entries channel).permits
        → IsCovered peak channel before connection → IsCovered peak channel after connection
    cover_answered asking answer asked replied changes in_time permits =
        by (waits_at channel before thread waiter) refl
      where
        awake_now : is_awake channel after thread
            ≡ (waits_at channel before thread waiter && not (blocks answer waiter.want.function))
        awake_now =
            seen_here thread (Some waiter) reply before after changes (awake_with channel)
            (awake_local channel)
            ∙ (λ i. waits_at channel before thread waiter
            && is_awake_at (asked i) (replied i) waiter.want.function)

        due_now : due_of channel after thread
            ≡ (if waits_at channel before thread waiter
            then due_by_reply asking.at (Some answer) else None)
        due_now =
            seen_here thread (Some waiter) reply before after changes (due_with channel)
            (due_local channel)
            ∙ (λ i. if waits_at channel before thread waiter then due_at (asked i) (replied i)
            else None)

        stands : (b : Bool) → blocks answer waiter.want.function ≡ b
            → waits_at channel before thread waiter ≡ true → wakes_one_of_many channel.kind ≡ true
            → Stands peak channel after connection
        stands true blocked e one =
            let timer = in_time blocked one e in
            ByTimer thread timer.0 within
            (due_now
            ∙ ap (λ b. if b then due_by_reply asking.at (Some answer) else None) e ∙ timer.1)
            timer.2
        stands false free e one =
            ByAwake thread within (awake_now ∙ (λ i. e i && not (free i)))

        by : (b : Bool) → waits_at channel before thread waiter ≡ b
            → IsCovered peak channel before connection → IsCovered peak channel after connection
        by true e =
            cover_itself thread (Some waiter) reply before after changes peak channel connection
            (stands (blocks answer waiter.want.function) refl e)
        by false e =
            cover_outside thread (Some waiter) reply before after changes peak channel connection
            (was_registered ∙ e)
            (ap (λ b. b && is_blocked_at waiter.stage reply waiter.want.function) e) permits

    -- it ends, and wasn't registered
    pub cover_ended : ChangesThread thread None reply before after → waiter.registered ≡ false
        → (after.session.latches.entries channel).permits
        ≡ (before.session.latches.entries channel).permits
        → IsCovered peak channel before connection → IsCovered peak channel after connection
    cover_ended changes outside permits =
        cover_outside thread None reply before after changes peak channel connection
        (was_registered
        ∙ ap (λ b. b && same_channel channel (channel_in before.session thread waiter)) outside)
        refl permits

    -- it ends, and hands its turn on where others are registered
    pub cover_left : ChangesThread thread None reply before after → waiter.registered ≡ true
        → IsCounted channel before
        → ChangesEntry (channel_in before.session thread waiter)
        (leave_in (channel_wakes (channel_in before.session thread waiter).kind)
        (before.session.latches.entries (channel_in before.session thread waiter)))
        before.session.latches.entries after.session.latches.entries
        → IsCovered peak channel before connection → IsCovered peak channel after connection
    cover_left changes inside counted entry covered =
        by (same_channel channel (channel_in before.session thread waiter)) refl
      where
        is : (b : Bool) → same_channel channel (channel_in before.session thread waiter) ≡ b
            → is_registered channel before thread ≡ b
        is b e = was_registered ∙ (λ i. inside i && e i)

        -- the entry where it is the thread's own
        now : channel ≡ channel_in before.session thread waiter
            → wakes_one_of_many channel.kind ≡ true
            → after.session.latches.entries channel
            ≡ leave_in One (before.session.latches.entries channel)
        now own one =
            ap after.session.latches.entries own ∙ entry.here
            ∙ ap (λ (c : ChannelOf). leave_in (channel_wakes c.kind)
            (before.session.latches.entries c)) (sym own)
            ∙ ap (λ w. leave_in w (before.session.latches.entries channel))
            (wakes_one channel.kind one)

        stands : channel ≡ channel_in before.session thread waiter
            → is_registered channel before thread ≡ true → wakes_one_of_many channel.kind ≡ true
            → (t : ℕ) → t ≤ thread_limit → is_blocked channel after t ≡ true
            → (t ≡ thread) ⊎ (t ≡ thread → ⊥) → Stands peak channel after connection
        stands own registered one t under blocked (inl same) =
            absurd
            (false≢true
            (sym
            (seen_here thread None reply before after changes (blocked_with channel)
            (blocked_local channel))
            ∙ ap (is_blocked channel after) (sym same) ∙ blocked))
        stands own registered one t under blocked (inr apart) =
            let was_blocked : is_blocked channel before t ≡ true =
            sym
            (seen_there thread None reply before after changes (blocked_with channel)
            (blocked_local channel) t apart)
            ∙ blocked in
            let two = counts_two channel before thread t within under apart counted registered
            (blocked_registered channel before t was_blocked) in
            ByPermit
            (subst (λ (x : LatchEntry). 0 < x.permits) (sym (now own one))
            (permit_left (before.session.latches.entries channel) two))

        by : (b : Bool) → same_channel channel (channel_in before.session thread waiter) ≡ b
            → IsCovered peak channel after connection
        by true e = record {
          stands = λ one t under blocked.
              stands (same_is channel (channel_in before.session thread waiter) e) (is true e) one
              t under blocked (cases_eq t thread);
        }
        by false e =
            cover_outside thread None reply before after changes peak channel connection (is false e)
            refl (ap (λ (x : LatchEntry). x.permits) (entry.there channel e)) covered

    -- it registers, and isn't refused
    pub cover_registered : (joined : Waiter)
        → ChangesThread thread (Some joined) reply before after
        → waiter.registered ≡ false
        → is_blocked_at joined.stage reply joined.want.function ≡ false
        → (after.session.latches.entries channel).permits
        ≡ (before.session.latches.entries channel).permits
        → IsCovered peak channel before connection → IsCovered peak channel after connection
    cover_registered joined changes outside free permits =
        cover_outside thread (Some joined) reply before after changes peak channel connection
        (was_registered
        ∙ ap (λ b. b && same_channel channel (channel_in before.session thread waiter)) outside)
        (ap (λ b. (joined.registered
        && same_channel channel (channel_in before.session thread joined)) && b) free
        ∙ and_no
        (joined.registered && same_channel channel (channel_in before.session thread joined)))
        permits
      where
        and_no : (b : Bool) → (b && false) ≡ false
        and_no true = refl
        and_no false = refl
