-- All facts after each step of a thread.
use Rattle.std.proofs.Common.{◌≡◌, ℕ, suc, ◌+◌, ◌<◌, ◌≤◌, ◌^◌, Bool, true, false, not, ◌&&◌, Option, Some, None, is_some, refl, ap, sym, ◌∙◌, subst, arith}
use Rattle.std.proofs.lemmas.Bool.{and_parts, and_from, false≢true}
use Rattle.lr_limits.specs.Limits.{thread_limit}
use Rattle.lr_names.specs.Channel.{ChannelOf, channel_wakes}
use Rattle.lr_objects.specs.Reply.{blocks}
use Rattle.lr_objects.specs.declared.kinds.Function.{Function}
use Rattle.lr_objects.specs.declared.reply.Reply.{Reply}
use Rattle.lr_waiting.specs.declared.latch.LatchEntry.{LatchEntry}
use Rattle.lr_waiting.specs.declared.waiter.Asking.{Asking}
use Rattle.lr_waiting.specs.declared.waiter.Refusal.{Refusal}
use Rattle.lr_waiting.specs.declared.waiter.Stage.{Stage}
use Rattle.lr_waiting.specs.declared.waiter.Stage.TheVariants.{Asked, Refused, Asleep, Leaving}
use Rattle.lr_waiting.specs.declared.waiter.Waiter.{Waiter}
use Rattle.lr_model.specs.Board.{Connection, same_channel}
use Rattle.lr_waiting.specs.Latch.{Latches, is_subscribed, register_in, register_at, leave_in, leave_at, take_permit, take_permit_at}
use Rattle.lr_waiting.specs.Session.{at_stage, owner_in, channel_in, entry_for, with_waiter, with_stage, with_latches, is_joining_at, due_after, leaving_function}
use Rattle.lr_waiting.specs.Client.{Client, waiter_in, with_reply}
use Rattle.lr_waiting.specs.Stand.{waits_at, is_awake_at, due_at, due_by_reply}
use Rattle.lr_wakeups.specs.Registered.{registered_with, is_registered}
use Rattle.lr_wakeups.specs.Joining.{FitsStage, gives_up_at}
use Rattle.lr_wakeups.specs.Answered.{asked_with, is_asked_at}
use Rattle.lr_wakeups.specs.Standing.{wakes_one_of_many, is_blocked_at, IsCovered, IsInTime}
use Rattle.lr_wakeups.specs.Queued.{QueuedWith, IsLeftQueued}
use Rattle.lr_wakeups.specs.Reached.{Present, ReachedWith, IsLeftWaiting, seen_at}
use Rattle.lr_wakeups.specs.Facts.{Facts}
use Rattle.lr_model.proofs.SameChannel.{same_is, same_self}
use Rattle.lr_wakeups.proofs.Tables.{put_here, put_there}
use Rattle.lr_wakeups.proofs.EntryChanges.{ChangesEntry, entry_put, entry_left, entry_registered, by_channel, permits_registered}
use Rattle.lr_wakeups.proofs.LatchFacts.{LatchFacts, latch_facts_registered, latch_facts_left, latch_facts_permit}
use Rattle.lr_wakeups.proofs.Threads.{ChangesThread, changes_waiter, changes_both}
use Rattle.lr_wakeups.proofs.Registered.{counts_two, count_begun, count_restaged, count_ended, count_left, count_registered}
use Rattle.lr_wakeups.proofs.Joining.{place_begun, place_ended, placed_was, place_restaged, place_left, place_registered}
use Rattle.lr_wakeups.proofs.Answered.{answered_changes, no_reply}
use Rattle.lr_wakeups.proofs.Reached.{number_registered, number_left, few_left, awake_free, reached_moved, reached_outside, reached_free, reached_kept, reached_answered, reached_changes}
use Rattle.lr_wakeups.proofs.Queued.{queued_free, refused_stays, queued_kept, queued_answered, queued_changes}
use Rattle.lr_wakeups.proofs.FairChannels.{leaves_fair}
use Rattle.lr_wakeups.proofs.Standing.{cover_begun, cover_awake, cover_apart, cover_kept, cover_answered, cover_ended, cover_left, cover_registered}

-- the facts of the channels among all
pub latch_facts : (n : ℕ) (present : Present) (client : Client) (connection : Connection)
    → Facts n present client connection → LatchFacts n client.session.latches connection
latch_facts n present client connection facts =
    record { accounted = facts.accounted; matched = facts.matched; bounded = facts.bounded }

-- a request that isn't registered, and for which no reply waits, wasn't refused
outside_free : (function : Function) (stage : Stage) (registered : Bool)
    → FitsStage stage registered → registered ≡ false
    → is_blocked_at stage None function ≡ false
outside_free function (Refused refusal) registered fits outside =
    absurd (false≢true (sym outside ∙ fits))
outside_free function (Asleep refusal) registered fits outside =
    absurd (false≢true (sym outside ∙ fits))
outside_free function (Asked asking) registered fits outside = refl
outside_free function _ registered fits outside = refl

module _ (n : ℕ) (present : Present) (client : Client) (connection : Connection)
    (facts : Facts n present client connection) (thread : ℕ) (within : thread ≤ thread_limit) where
  -- a request begins
  pub begun : (waiter : Waiter) (turn : ℕ) → waiter_in client thread ≡ None
      → FitsStage waiter.stage waiter.registered → waiter.registered ≡ false
      → Facts n present
      (record client {
        session = with_waiter thread (Some waiter) (record client.session { turn = turn });
      })
      connection
  begun waiter turn idle fits outside = record {
    accounted = facts.accounted;
    matched = facts.matched;
    bounded = facts.bounded;
    counted = λ q.
        count_begun thread (client.replies thread) client after within waiter changes idle outside q
        refl (facts.counted q);
    placed = place_begun thread (client.replies thread) client after within facts.placed waiter
        changes fits outside (λ q. refl);
    answered = answered_changes thread (Some waiter) (client.replies thread) client after changes
        (λ not_asked. (facts.answered thread).without (ap asked_with idle)) facts.answered;
    covered = λ q.
        cover_begun thread (client.replies thread) client after within (present.peak q) q connection
        waiter changes idle outside refl (facts.covered q);
    few = facts.few;
    reached = reached_changes present thread (Some waiter) (client.replies thread) client after
        changes connection
        (reached_outside present client.session.client thread client.session.latches.entries
        connection.outbox (client.replies thread) waiter outside)
        (λ t apart under q there. refl) facts.reached;
    queued = queued_changes present thread (Some waiter) (client.replies thread) client after
        changes connection
        (subst
        (λ r. QueuedWith present client.session.client client.session.latches.entries
        connection.outbox thread r (Some waiter))
        (sym ((facts.answered thread).without (ap asked_with idle)))
        (queued_free present client.session.client thread client.session.latches.entries
        connection.outbox None waiter
        (outside_free waiter.want.function waiter.stage waiter.registered fits outside)))
        (λ q there. refl) facts.queued;
  }
    where
      after : Client
      after = record client {
        session = with_waiter thread (Some waiter) (record client.session { turn = turn });
      }

      changes : ChangesThread thread (Some waiter) (client.replies thread) client
          (record client {
            session = with_waiter thread (Some waiter) (record client.session { turn = turn });
          })
      changes = changes_waiter thread (Some waiter) client (record client.session { turn = turn })
          refl refl

  module _ (waiter : Waiter) (was : waiter_in client thread ≡ Some waiter) where
    -- its channel and the entry of that
    abbrev own : ChannelOf
    own = channel_in client.session thread waiter

    -- A request comes to another stage, in which it joins as it did, unless it gives its place up
    -- then; and what else is known of it.
    pub record Restages (stage : Stage) (reply : Option Reply) (after : Client) : Type 0 where
      pub changes : ChangesThread thread (Some (at_stage stage waiter)) reply client after
      pub fits : FitsStage stage waiter.registered
      pub joins : gives_up_at stage waiter.want.function ≡ false
          → (gives_up_at waiter.stage waiter.want.function ≡ false)
          × (is_joining_at stage ≡ is_joining_at waiter.stage)
      pub reply_fits : is_asked_at stage ≡ false → reply ≡ None

    pub restaged : (stage : Stage) (reply : Option Reply) (after : Client)
        → Restages stage reply after
        → LatchFacts n after.session.latches connection
        → ((q : ChannelOf) → (after.session.latches.entries q).registered
        ≡ (client.session.latches.entries q).registered)
        → ((q : ChannelOf) → is_subscribed (after.session.latches.entries q)
        ≡ is_subscribed (client.session.latches.entries q))
        → ((q : ChannelOf) → IsCovered (present.peak q) q after connection)
        → ((q : ChannelOf) → (after.session.latches.entries q).broadcast
        ≡ (client.session.latches.entries q).broadcast)
        → ReachedWith present client.session.client client.session.latches.entries
        connection.outbox thread reply (Some (at_stage stage waiter))
        → QueuedWith present client.session.client after.session.latches.entries
        connection.outbox thread reply (Some (at_stage stage waiter))
        → ((q : ChannelOf) → is_registered q client thread ≡ false
        → (after.session.latches.entries q).permits ≡ (client.session.latches.entries q).permits)
        → Facts n present after connection
    restaged stage reply after to latched registered heard covered number here place stay = record {
      accounted = latched.accounted;
      matched = latched.matched;
      bounded = latched.bounded;
      counted = λ q.
          count_restaged thread reply client after within waiter was stage to.changes q
          (registered q) (facts.counted q);
      placed = place_restaged thread reply client after within facts.placed waiter was stage
          to.changes to.fits to.joins heard;
      answered = answered_changes thread (Some (at_stage stage waiter)) reply client after
          to.changes to.reply_fits facts.answered;
      covered = covered;
      few = λ q. subst (λ k. k ≤ n) (sym (number q)) (facts.few q);
      reached = reached_changes present thread (Some (at_stage stage waiter)) reply client after
          to.changes connection
          (reached_moved present client.session.client thread client.session.latches.entries
          after.session.latches.entries connection.outbox connection.outbox reply
          (at_stage stage waiter)
          (λ inside. number (channel_in client.session thread waiter)) (λ quiet. quiet) here)
          (λ t apart under q there. number q) facts.reached;
      queued = queued_changes present thread (Some (at_stage stage waiter)) reply client after
          to.changes connection place stay facts.queued;
    }

    -- what is so of it before
    was_reached : ReachedWith present client.session.client client.session.latches.entries
        connection.outbox thread (client.replies thread) (Some waiter)
    was_reached =
        subst
        (ReachedWith present client.session.client client.session.latches.entries
        connection.outbox thread (client.replies thread))
        was (facts.reached thread within)

    was_queued : QueuedWith present client.session.client client.session.latches.entries
        connection.outbox thread (client.replies thread) (Some waiter)
    was_queued =
        subst
        (QueuedWith present client.session.client client.session.latches.entries
        connection.outbox thread (client.replies thread))
        was (facts.queued thread within)

    -- and once it is awake
    freed : (stage : Stage) (entries : ChannelOf → LatchEntry)
        → is_awake_at stage None waiter.want.function ≡ true
        → QueuedWith present client.session.client entries connection.outbox thread None
        (Some (at_stage stage waiter))
    freed stage entries awake =
        queued_free present client.session.client thread entries connection.outbox None
        (at_stage stage waiter) (awake_free stage waiter.want.function awake)

    woken : (stage : Stage) → seen_at stage ≤ (entry_for client.session thread waiter).broadcast
        → is_awake_at stage None waiter.want.function ≡ true
        → ReachedWith present client.session.client client.session.latches.entries
        connection.outbox thread None (Some (at_stage stage waiter))
    woken stage noted awake =
        reached_free present client.session.client thread client.session.latches.entries
        connection.outbox None (at_stage stage waiter) (λ inside. noted)
        (awake_free stage waiter.want.function awake)

    -- it sends a call, or a message, a permit or a timer has woken it: it is awake
    pub awoken : (stage : Stage) (turn : ℕ)
        → FitsStage stage waiter.registered
        → (gives_up_at stage waiter.want.function ≡ false
        → (gives_up_at waiter.stage waiter.want.function ≡ false)
        × (is_joining_at stage ≡ is_joining_at waiter.stage))
        → asked_with (Some waiter) ≡ false
        → is_awake_at stage None waiter.want.function ≡ true
        → seen_at stage ≤ (entry_for client.session thread waiter).broadcast
        → Facts n present
        (record client {
          session = with_stage thread waiter stage (record client.session { turn = turn });
        })
        connection
    awoken stage turn fits joins not_asked awake noted =
        restaged stage None after
        (record {
          changes = changes;
          fits = fits;
          joins = joins;
          reply_fits = λ asked. refl;
        })
        (latch_facts n present client connection facts) (λ q. refl) (λ q. refl)
        (λ q.
        cover_awake thread None client after within (present.peak q) q connection waiter was stage
        changes awake (λ outside. refl) (facts.covered q))
        (λ q. refl) (woken stage noted awake)
        (freed stage client.session.latches.entries awake) (λ q outside. refl)
      where
        after : Client
        after = record client {
          session = with_stage thread waiter stage (record client.session { turn = turn });
        }

        no_answer : client.replies thread ≡ None
        no_answer = no_reply client thread waiter was not_asked facts.answered

        changes : ChangesThread thread (Some (at_stage stage waiter)) None client
            (record client {
              session = with_stage thread waiter stage (record client.session { turn = turn });
            })
        changes =
            subst
            (λ r. ChangesThread thread (Some (at_stage stage waiter)) r client
            (record client {
              session = with_stage thread waiter stage (record client.session { turn = turn });
            }))
            no_answer
            (changes_waiter thread (Some (at_stage stage waiter)) client
            (record client.session { turn = turn }) refl refl)

    -- it takes a permit, and is awake
    pub permitted : (stage : Stage) (turn : ℕ)
        → waiter.registered ≡ true → FitsStage stage waiter.registered
        → (gives_up_at stage waiter.want.function ≡ false
        → (gives_up_at waiter.stage waiter.want.function ≡ false)
        × (is_joining_at stage ≡ is_joining_at waiter.stage))
        → asked_with (Some waiter) ≡ false
        → is_awake_at stage None waiter.want.function ≡ true
        → seen_at stage ≤ (entry_for client.session thread waiter).broadcast
        → Facts n present
        (record client {
          session = with_stage thread waiter stage
              (record
              (with_latches
              (take_permit_at (channel_in client.session thread waiter) client.session.latches)
              client.session) {
                turn = turn;
              });
        })
        connection
    permitted stage turn inside fits joins not_asked awake noted =
        restaged stage None after
        (record {
          changes = changes;
          fits = fits;
          joins = joins;
          reply_fits = λ asked. refl;
        })
        (latch_facts_permit n client.session.latches connection
        (latch_facts n present client connection facts) (channel_in client.session thread waiter))
        (by_channel (λ q x. x.registered ≡ (client.session.latches.entries q).registered)
        (channel_in client.session thread waiter) (take_permit (entry_for client.session thread waiter))
        client.session.latches.entries after.session.latches.entries entry refl
        (λ q other. refl))
        (by_channel (λ q x. is_subscribed x ≡ is_subscribed (client.session.latches.entries q))
        (channel_in client.session thread waiter) (take_permit (entry_for client.session thread waiter))
        client.session.latches.entries after.session.latches.entries entry refl
        (λ q other. refl))
        (λ q.
        cover_awake thread None client after within (present.peak q) q connection waiter was stage
        changes awake (λ outside. elsewhere q outside) (facts.covered q))
        (by_channel (λ q x. x.broadcast ≡ (client.session.latches.entries q).broadcast)
        (channel_in client.session thread waiter) (take_permit (entry_for client.session thread waiter))
        client.session.latches.entries after.session.latches.entries entry refl
        (λ q other. refl))
        (woken stage noted awake) (freed stage after.session.latches.entries awake) elsewhere
      where
        after : Client
        after = record client {
          session = with_stage thread waiter stage
              (record
              (with_latches
              (take_permit_at (channel_in client.session thread waiter) client.session.latches)
              client.session) {
                turn = turn;
              });
        }

        entry : ChangesEntry (channel_in client.session thread waiter)
            (take_permit (entry_for client.session thread waiter))
            client.session.latches.entries
            (take_permit_at (channel_in client.session thread waiter)
            client.session.latches).entries
        entry = entry_put (channel_in client.session thread waiter)
            (take_permit (entry_for client.session thread waiter)) client.session.latches.entries

        no_answer : client.replies thread ≡ None
        no_answer = no_reply client thread waiter was not_asked facts.answered

        changes : ChangesThread thread (Some (at_stage stage waiter)) None client
            (record client {
              session = with_stage thread waiter stage
                  (record
                  (with_latches
                  (take_permit_at (channel_in client.session thread waiter) client.session.latches)
                  client.session) {
                    turn = turn;
                  });
            })
        changes =
            subst
            (λ r. ChangesThread thread (Some (at_stage stage waiter)) r client
            (record client {
              session = with_stage thread waiter stage
                  (record
                  (with_latches
                  (take_permit_at (channel_in client.session thread waiter) client.session.latches)
                  client.session) {
                    turn = turn;
                  });
            }))
            no_answer
            (changes_waiter thread (Some (at_stage stage waiter)) client
            (record
            (with_latches
            (take_permit_at (channel_in client.session thread waiter) client.session.latches)
            client.session) {
              turn = turn;
            }) refl refl)

        -- it is registered at its own channel alone
        elsewhere : (q : ChannelOf) → is_registered q client thread ≡ false
            → (after.session.latches.entries q).permits
            ≡ (client.session.latches.entries q).permits
        elsewhere q outside =
            ap (λ (x : LatchEntry). x.permits)
            (entry.there q
            (sym (ap (λ b. b && same_channel q (channel_in client.session thread waiter)) inside)
            ∙ sym (ap (registered_with q client thread) was) ∙ outside))

    -- it looks, and sleeps
    pub slept : (refusal : Refusal) → waiter.stage ≡ Refused refusal
        → Facts n present
        (record client { session = with_stage thread waiter (Asleep refusal) client.session })
        connection
    slept refusal refused =
        restaged (Asleep refusal) None after
        (record {
          changes = changes;
          fits = subst (λ s. FitsStage s waiter.registered) refused
              (placed_was thread None client after within facts.placed waiter was).fits;
          joins = λ stays. (
            ap (λ s. gives_up_at s waiter.want.function) refused,
            sym (ap is_joining_at refused),
          );
          reply_fits = λ asked. refl;
        })
        (latch_facts n present client connection facts) (λ q. refl) (λ q. refl)
        (λ q.
        cover_kept thread None client after within (present.peak q) q connection waiter was
        (Asleep refusal) changes
        (ap (λ s. is_awake_at s (client.replies thread) waiter.want.function) refused)
        (ap (λ s. is_blocked_at s (client.replies thread) waiter.want.function) refused)
        (sym (ap (λ s. due_at s (client.replies thread)) refused)) refl (facts.covered q))
        (λ q. refl)
        (reached_kept present client.session.client thread client.session.latches.entries
        connection.outbox (client.replies thread) None waiter (Asleep refusal)
        (sym (ap seen_at refused)) (sym (ap (λ s. due_at s (client.replies thread)) refused))
        (ap (λ s. is_blocked_at s (client.replies thread) waiter.want.function) refused)
        was_reached)
        (queued_kept present client.session.client thread client.session.latches.entries
        connection.outbox (client.replies thread) None waiter (Asleep refusal)
        (sym (ap (λ s. due_at s (client.replies thread)) refused))
        (ap (λ s. is_blocked_at s (client.replies thread) waiter.want.function) refused) refl
        was_queued)
        (λ q outside. refl)
      where
        after : Client
        after = record client { session = with_stage thread waiter (Asleep refusal) client.session }

        no_answer : client.replies thread ≡ None
        no_answer = no_reply client thread waiter was (ap is_asked_at refused) facts.answered

        changes : ChangesThread thread (Some (at_stage (Asleep refusal) waiter)) None client
            (record client {
              session = with_stage thread waiter (Asleep refusal) client.session;
            })
        changes =
            subst
            (λ r. ChangesThread thread (Some (at_stage (Asleep refusal) waiter)) r client
            (record client {
              session = with_stage thread waiter (Asleep refusal) client.session;
            }))
            no_answer
            (changes_waiter thread (Some (at_stage (Asleep refusal) waiter)) client client.session
            refl refl)

    -- It gives its place up.
    pub gave_up : (turn : ℕ) → waiter.registered ≡ true
        → is_some (leaving_function waiter.want.function) ≡ true
        → asked_with (Some waiter) ≡ false
        → Facts n present
        (record client {
          session = with_stage thread waiter (Leaving turn) (record client.session { turn = turn });
        })
        connection
    gave_up turn inside leaves not_asked =
        restaged (Leaving turn) None after
        (record {
          changes = changes;
          fits = inside;
          joins = λ stays. absurd (false≢true (sym stays ∙ leaves));
          reply_fits = λ asked. refl;
        })
        (latch_facts n present client connection facts) (λ q. refl) (λ q. refl)
        (λ q.
        cover_apart thread None client after within (present.peak q) q connection waiter was
        (Leaving turn) changes (apart q) refl (facts.covered q))
        (λ q. refl)
        (reached_free present client.session.client thread client.session.latches.entries
        connection.outbox None (at_stage (Leaving turn) waiter) (λ registered. omega arith) refl)
        (queued_free present client.session.client thread client.session.latches.entries
        connection.outbox None (at_stage (Leaving turn) waiter) refl)
        (λ q outside. refl)
      where
        after : Client
        after = record client {
          session = with_stage thread waiter (Leaving turn) (record client.session { turn = turn });
        }

        no_answer : client.replies thread ≡ None
        no_answer = no_reply client thread waiter was not_asked facts.answered

        changes : ChangesThread thread (Some (at_stage (Leaving turn) waiter)) None client
            (record client {
              session = with_stage thread waiter (Leaving turn)
                  (record client.session { turn = turn });
            })
        changes =
            subst
            (λ r. ChangesThread thread (Some (at_stage (Leaving turn) waiter)) r client
            (record client {
              session = with_stage thread waiter (Leaving turn)
                  (record client.session { turn = turn });
            }))
            no_answer
            (changes_waiter thread (Some (at_stage (Leaving turn) waiter)) client
            (record client.session { turn = turn }) refl refl)

        -- where it waits, no message wakes one of many
        apart : (q : ChannelOf) → waits_at q client thread waiter ≡ true
            → wakes_one_of_many q.kind ≡ false
        apart q there =
            let parts = and_parts waiter.registered
            (same_channel q (channel_in client.session thread waiter)) there in
            ap (λ (c : ChannelOf). wakes_one_of_many c.kind)
            (same_is q (channel_in client.session thread waiter) parts.1)
            ∙ leaves_fair (owner_in client.session thread) waiter.want leaves

    -- A reply comes for it.
    pub answered : (asking : Asking) (reply : Reply) → waiter.stage ≡ Asked asking
        → IsInTime present.peak client thread waiter asking reply
        → IsLeftWaiting present (owner_in client.session thread) waiter.want asking.at reply
        → IsLeftQueued present (owner_in client.session thread) waiter asking reply
        → Facts n present (with_reply thread (Some reply) client) connection
    answered asking reply asked in_time waits left =
        restaged waiter.stage (Some reply) after
        (record {
          changes = changes;
          fits = subst (λ s. FitsStage s waiter.registered) (sym asked) tt;
          joins = λ stays. (stays, refl);
          reply_fits = λ not_asked. absurd (false≢true (sym not_asked ∙ ap is_asked_at asked));
        })
        (latch_facts n present client connection facts) (λ q. refl) (λ q. refl)
        (λ q.
        cover_answered thread (Some reply) client after within (present.peak q) q connection waiter
        was asking reply asked refl changes (timer q) refl (facts.covered q))
        (λ q. refl)
        (reached_answered present client.session.client thread client.session.latches.entries
        connection.outbox (client.replies thread) waiter asking reply asked waits
        was_reached)
        (queued_answered present client.session.client thread client.session.latches.entries
        connection.outbox waiter asking reply asked left)
        (λ q outside. refl)
      where
        after : Client
        after = with_reply thread (Some reply) client

        changes : ChangesThread thread (Some waiter) (Some reply) client
            (with_reply thread (Some reply) client)
        changes = record {
          id = refl;
          waiter = was;
          answer = put_here client.replies thread (Some reply);
          waiters = λ t apart. refl;
          answers = λ t apart. put_there client.replies thread (Some reply) t apart;
        }

        timer : (q : ChannelOf) → blocks reply waiter.want.function ≡ true
            → wakes_one_of_many q.kind ≡ true → waits_at q client thread waiter ≡ true
            → (m : ℕ) × (due_by_reply asking.at (Some reply) ≡ Some m) × (m ≤ present.peak q)
        timer q blocked one there =
            let parts = and_parts waiter.registered
            (same_channel q (channel_in client.session thread waiter)) there in
            let own_is : q ≡ channel_in client.session thread waiter =
            same_is q (channel_in client.session thread waiter) parts.1 in
            let busy = in_time.timer
            (ap (λ (c : ChannelOf). wakes_one_of_many c.kind) (sym own_is) ∙ one) blocked in (
              asking.at + busy.0,
              ap (λ r. due_by_reply asking.at (Some r)) busy.1,
              subst (λ c. asking.at + busy.0 ≤ present.peak c) (sym own_is) busy.2,
            )

    -- The thread takes a reply that refuses its call, and was registered.
    pub refused_again : (asking : Asking) (reply : Reply) → waiter.stage ≡ Asked asking
        → client.replies thread ≡ Some reply → blocks reply waiter.want.function ≡ true
        → waiter.registered ≡ true
        → Facts n present
        (record (with_reply thread None client) {
          session = with_stage thread waiter
              (Refused (record { due = due_after asking.at reply; seen = asking.seen }))
              client.session;
        })
        connection
    refused_again asking reply asked replied blocked inside =
        restaged stage None after
        (record {
          changes = changes;
          fits = inside;
          joins = λ stays. (
            refused_stays present client.session.client thread
                client.session.latches.entries connection.outbox (client.replies thread) waiter
                was_queued was_blocked,
            sym (ap is_joining_at asked),
          );
          reply_fits = λ not_asked. refl;
        })
        (latch_facts n present client connection facts) (λ q. refl) (λ q. refl)
        (λ q.
        cover_kept thread None client after within (present.peak q) q connection waiter was stage changes
        ((λ i. is_awake_at (asked i) (replied i) waiter.want.function) ∙ ap not blocked)
        ((λ i. is_blocked_at (asked i) (replied i) waiter.want.function) ∙ blocked)
        (sym (λ i. due_at (asked i) (replied i))) refl (facts.covered q))
        (λ q. refl)
        (reached_kept present client.session.client thread client.session.latches.entries
        connection.outbox (client.replies thread) None waiter stage (sym (ap seen_at asked))
        (sym (λ i. due_at (asked i) (replied i))) was_blocked was_reached)
        (queued_kept present client.session.client thread client.session.latches.entries
        connection.outbox (client.replies thread) None waiter stage
        (sym (λ i. due_at (asked i) (replied i))) was_blocked refl was_queued)
        (λ q outside. refl)
      where
        was_blocked : is_blocked_at waiter.stage (client.replies thread) waiter.want.function
            ≡ true
        was_blocked = (λ i. is_blocked_at (asked i) (replied i) waiter.want.function) ∙ blocked

        stage : Stage
        stage = Refused (record { due = due_after asking.at reply; seen = asking.seen })

        after : Client
        after = record (with_reply thread None client) {
          session = with_stage thread waiter
              (Refused (record { due = due_after asking.at reply; seen = asking.seen }))
              client.session;
        }

        changes : ChangesThread thread
            (Some
            (at_stage (Refused (record { due = due_after asking.at reply; seen = asking.seen }))
            waiter))
            None client
            (record (with_reply thread None client) {
              session = with_stage thread waiter
                  (Refused (record { due = due_after asking.at reply; seen = asking.seen }))
                  client.session;
            })
        changes =
            changes_both thread
            (Some
            (at_stage (Refused (record { due = due_after asking.at reply; seen = asking.seen }))
            waiter))
            None client client.session refl refl

    -- A request ends that wasn't registered: the latches stay.
    pub ended : (reply : Option Reply) (after : Client)
        → ChangesThread thread None reply client after → reply ≡ None
        → waiter.registered ≡ false → after.session.latches ≡ client.session.latches
        → Facts n present after connection
    ended reply after changes none outside same = record {
      accounted = latched.accounted;
      matched = latched.matched;
      bounded = latched.bounded;
      counted = λ q.
          count_ended thread reply client after within waiter was changes outside q
          (ap (λ (l : Latches). (l.entries q).registered) same) (facts.counted q);
      placed = place_ended thread reply client after within facts.placed changes
          (λ q. ap (λ (l : Latches). is_subscribed (l.entries q)) same);
      answered = answered_changes thread None reply client after changes (λ not_asked. none)
          facts.answered;
      covered = λ q.
          cover_ended thread reply client after within (present.peak q) q connection waiter was changes
          outside (ap (λ (l : Latches). (l.entries q).permits) same) (facts.covered q);
      few = λ q.
          subst (λ (l : Latches). (l.entries q).broadcast ≤ n) (sym same) (facts.few q);
      reached = reached_changes present thread None reply client after changes connection tt
          (λ t apart under q there. ap (λ (l : Latches). (l.entries q).broadcast) same)
          facts.reached;
      queued = queued_changes present thread None reply client after changes connection tt
          (λ q there. ap (λ (l : Latches). (l.entries q).permits) same) facts.queued;
    }
      where
        latched : LatchFacts n after.session.latches connection
        latched =
            subst (λ l. LatchFacts n l connection) (sym same)
            (latch_facts n present client connection facts)

    -- One ends that was: it leaves its channel.
    pub left : (reply : Option Reply) (after : Client)
        → ChangesThread thread None reply client after → reply ≡ None
        → waiter.registered ≡ true
        → after.session.latches
        ≡ leave_at (channel_in client.session thread waiter) client.session.latches
        → Facts n present after connection
    left reply after changes none inside same = record {
      accounted = latched.accounted;
      matched = latched.matched;
      bounded = latched.bounded;
      counted = count_left thread reply client after within waiter was changes inside entry
          facts.counted;
      placed = place_left thread reply client after within facts.placed waiter was facts.counted
          changes inside entry;
      answered = answered_changes thread None reply client after changes (λ not_asked. none)
          facts.answered;
      covered = λ q.
          cover_left thread reply client after within (present.peak q) q connection waiter was changes
          inside (facts.counted q) entry (facts.covered q);
      few =
          by_channel (λ q x. x.broadcast ≤ n) (channel_in client.session thread waiter)
          (leave_in (channel_wakes (channel_in client.session thread waiter).kind)
          (entry_for client.session thread waiter))
          client.session.latches.entries after.session.latches.entries entry
          (few_left n (channel_wakes (channel_in client.session thread waiter).kind)
          (entry_for client.session thread waiter)
          (facts.few (channel_in client.session thread waiter)))
          (λ q other. facts.few q);
      reached = reached_changes present thread None reply client after changes connection tt
          (λ t apart under. numbers t apart under) facts.reached;
      queued = queued_changes present thread None reply client after changes connection tt
          elsewhere facts.queued;
    }
      where
        latched : LatchFacts n after.session.latches connection
        latched =
            subst (λ l. LatchFacts n l connection) (sym same)
            (latch_facts_left n client.session.latches connection
            (latch_facts n present client connection facts) (channel_in client.session thread waiter))

        entry : ChangesEntry (channel_in client.session thread waiter)
            (leave_in (channel_wakes (channel_in client.session thread waiter).kind)
            (client.session.latches.entries (channel_in client.session thread waiter)))
            client.session.latches.entries after.session.latches.entries
        entry =
            subst
            (λ (l : Latches). ChangesEntry (channel_in client.session thread waiter)
            (leave_in (channel_wakes (channel_in client.session thread waiter).kind)
            (client.session.latches.entries (channel_in client.session thread waiter)))
            client.session.latches.entries l.entries)
            (sym same)
            (entry_left (channel_in client.session thread waiter) client.session.latches)

        -- it was registered there alone
        elsewhere : (q : ChannelOf) → is_registered q client thread ≡ false
            → (after.session.latches.entries q).permits
            ≡ (client.session.latches.entries q).permits
        elsewhere q outside =
            ap (λ (x : LatchEntry). x.permits)
            (entry.there q
            (sym (ap (λ b. b && same_channel q (channel_in client.session thread waiter)) inside)
            ∙ sym (ap (registered_with q client thread) was) ∙ outside))

        -- it is registered at its own channel
        is_there : is_registered (channel_in client.session thread waiter) client thread ≡ true
        is_there =
            ap (registered_with (channel_in client.session thread waiter) client thread) was
            ∙ and_from waiter.registered
            (same_channel (channel_in client.session thread waiter)
            (channel_in client.session thread waiter))
            inside (same_self (channel_in client.session thread waiter))

        -- where another waits too, the entry stays
        numbers : (t : ℕ) → (t ≡ thread → ⊥) → t ≤ thread_limit → (q : ChannelOf)
            → is_registered q client t ≡ true
            → (after.session.latches.entries q).broadcast
            ≡ (client.session.latches.entries q).broadcast
        numbers t apart under =
            by_channel
            (λ q x. is_registered q client t ≡ true
            → x.broadcast ≡ (client.session.latches.entries q).broadcast)
            (channel_in client.session thread waiter)
            (leave_in (channel_wakes (channel_in client.session thread waiter).kind)
            (entry_for client.session thread waiter))
            client.session.latches.entries after.session.latches.entries entry
            (λ there.
            number_left (channel_wakes (channel_in client.session thread waiter).kind)
            (entry_for client.session thread waiter)
            (counts_two (channel_in client.session thread waiter) client thread t within under apart
            (facts.counted (channel_in client.session thread waiter)) is_there there))
            (λ q other there. refl)

    -- One registers: it joins, or may ask at once where its client hears the channel already.
    pub registers : (joined : Waiter) (after : Client) → suc n < 2 ^ 64
        → ChangesThread thread (Some joined) None client after
        → waiter.registered ≡ false → joined.registered ≡ true → joined.want ≡ waiter.want
        → FitsStage joined.stage joined.registered
        → is_joining_at joined.stage
        ≡ not (is_subscribed
        (register_in (client.session.latches.entries (channel_in client.session thread waiter))))
        → is_blocked_at joined.stage None joined.want.function ≡ false
        → seen_at joined.stage ≡ 0
        → after.session.latches
        ≡ register_at (channel_in client.session thread waiter) client.session.latches
        → Facts (suc n) present after connection
    registers joined after few changes outside inside want fits joining free unseen same = record {
      accounted = latched.accounted;
      matched = latched.matched;
      bounded = latched.bounded;
      counted = λ q.
          count_registered thread None client after within waiter was joined changes outside inside
          want entry q (facts.counted q);
      placed = place_registered thread None client after within facts.placed waiter was
          facts.counted joined changes fits want joining entry;
      answered = answered_changes thread (Some joined) None client after changes
          (λ not_asked. refl) facts.answered;
      covered = λ q.
          cover_registered thread None client after within (present.peak q) q connection waiter was joined
          changes outside free (permits q) (facts.covered q);
      few = λ q.
          subst (λ k. k ≤ suc n) (sym (numbers q)) (omega (arith, facts.few q));
      reached = reached_changes present thread (Some joined) None client after changes connection
          (reached_free present client.session.client thread after.session.latches.entries
          connection.outbox None joined
          (λ registered.
          subst (λ k. k ≤ (after.session.latches.entries (channel_in client.session thread joined)).broadcast)
          (sym unseen) (omega arith))
          free)
          (λ t apart under q there. numbers q) facts.reached;
      queued = queued_changes present thread (Some joined) None client after changes connection
          (queued_free present client.session.client thread after.session.latches.entries
          connection.outbox None joined free)
          (λ q there. permits q) facts.queued;
    }
      where
        latched : LatchFacts (suc n) after.session.latches connection
        latched =
            subst (λ l. LatchFacts (suc n) l connection) (sym same)
            (latch_facts_registered n client.session.latches connection
            (latch_facts n present client connection facts) (channel_in client.session thread waiter)
            few)

        entry : ChangesEntry (channel_in client.session thread waiter)
            (register_in
            (client.session.latches.entries (channel_in client.session thread waiter)))
            client.session.latches.entries after.session.latches.entries
        entry =
            subst
            (λ (l : Latches). ChangesEntry (channel_in client.session thread waiter)
            (register_in
            (client.session.latches.entries (channel_in client.session thread waiter)))
            client.session.latches.entries l.entries)
            (sym same)
            (entry_registered (channel_in client.session thread waiter) client.session.latches)

        permits : (q : ChannelOf)
            → (after.session.latches.entries q).permits
            ≡ (client.session.latches.entries q).permits
        permits =
            by_channel
            (λ q x. x.permits ≡ (client.session.latches.entries q).permits)
            (channel_in client.session thread waiter)
            (register_in
            (client.session.latches.entries (channel_in client.session thread waiter)))
            client.session.latches.entries after.session.latches.entries entry
            (permits_registered
            (client.session.latches.entries (channel_in client.session thread waiter)))
            (λ q other. refl)

        numbers : (q : ChannelOf)
            → (after.session.latches.entries q).broadcast
            ≡ (client.session.latches.entries q).broadcast
        numbers =
            by_channel
            (λ q x. x.broadcast ≡ (client.session.latches.entries q).broadcast)
            (channel_in client.session thread waiter)
            (register_in
            (client.session.latches.entries (channel_in client.session thread waiter)))
            client.session.latches.entries after.session.latches.entries entry
            (number_registered
            (client.session.latches.entries (channel_in client.session thread waiter)))
            (λ q other. refl)
