-- No fact tells of a client's watchdog or of the replies to its renewals.
use Rattle.std.proofs.Common.{◌≡◌, ℕ, Option, Some, None, refl, sym, ◌∙◌, subst}
use Rattle.std.specs.Option.{option_map}
use Rattle.std.proofs.lemmas.Option.{same_Some}
use Rattle.lr_objects.specs.declared.reply.Reply.{Reply}
use Rattle.lr_waiting.specs.declared.waiter.Waiter.{Waiter}
use Rattle.lr_waiting.specs.declared.watch.RenewFault.{RenewFault}
use Rattle.lr_waiting.specs.declared.watch.Renewal.{Renewal}
use Rattle.lr_waiting.specs.declared.watch.WatchKey.{WatchKey}
use Rattle.lr_model.specs.Board.{Connection}
use Rattle.lr_model.specs.Table.{put}
use Rattle.lr_waiting.specs.Watchdog.{Watchdog, same_watch, renew_fault, renewal_asked, renewal_taken, is_renewed}
use Rattle.lr_waiting.specs.Session.{Session, with_watchdog, renew_unless, renew_row, renewed_row}
use Rattle.lr_waiting.specs.Client.{Client, waiter_in, client_row, with_renewed, take_renewed_with, take_renewed}
use Rattle.lr_waiting.specs.Stand.{awake_with, due_with}
use Rattle.lr_wakeups.specs.Registered.{registered_with}
use Rattle.lr_wakeups.specs.Standing.{blocked_with, ByMessage}
use Rattle.lr_wakeups.specs.Reached.{Present}
use Rattle.lr_wakeups.specs.Facts.{Facts}
use Rattle.lr_wakeups.specs.Keeps.{renewing}
use Rattle.lr_wakeups.proofs.Joining.{placed_on}
use Rattle.lr_wakeups.proofs.Registered.{counts_same}
use Rattle.lr_wakeups.proofs.Relatched.{cover_threads}
use Rattle.lr_wakeups.proofs.Rows.{applies}
use Rattle.lr_wakeups.proofs.Threads.{IsLocal, seen_alike, registered_local, blocked_local, awake_local, due_local}

module _ (n : ℕ) (present : Present) (client : Client) (connection : Connection)
    (facts : Facts n present client connection) where
  module _ (watchdog : Watchdog) (renewed : WatchKey → Option Reply) where
    -- a thread is seen as it was
    seen : {X : Type 0} (view : Client → ℕ → Option Waiter → X) → IsLocal view → (t : ℕ)
        → view (renewing watchdog renewed client) t (waiter_in client t)
        ≡ view client t (waiter_in client t)
    seen view local t =
        seen_alike view local client (renewing watchdog renewed client) t (waiter_in client t) refl
        refl refl

    pub facts_renewing : Facts n present (renewing watchdog renewed client) connection
    facts_renewing = record {
      accounted = facts.accounted;
      matched = facts.matched;
      bounded = facts.bounded;
      counted = λ q.
          counts_same client (renewing watchdog renewed client) q
          (seen (registered_with q) (registered_local q)) refl (facts.counted q);
      placed = λ t within.
          placed_on client (renewing watchdog renewed client) t within refl refl
          (λ q there stays. refl) (facts.placed t within);
      answered = λ t. record { without = (facts.answered t).without };
      covered = λ q.
          cover_threads (present.peak q) q client (renewing watchdog renewed client) connection
          connection
          (λ t blocked. sym (seen (blocked_with q) (blocked_local q) t) ∙ blocked)
          (λ t awake. seen (awake_with q) (awake_local q) t ∙ awake)
          (λ t m due. seen (due_with q) (due_local q) t ∙ due)
          (λ some. some) (λ one t within blocked flies. ByMessage flies) (facts.covered q);
      few = facts.few;
      reached = facts.reached;
      queued = facts.queued;
    }

  -- ask
  pub facts_renew : (key : WatchKey) (moment : ℕ) (after : Client)
      → client_row (renew_row key moment) client ≡ Some after → Facts n present after connection
  facts_renew key moment after =
      applies (renew_row key moment) client after (λ c. Facts n present c connection)
      (λ session. by session (renew_fault moment key client.session.watchdog))
    where
      by : (session : Session) (fault : Option RenewFault)
          → renew_unless fault moment key client.session ≡ Some session
          → Facts n present (record client { session = session }) connection
      by session None e =
          subst (λ s. Facts n present (record client { session = s }) connection)
          (same_Some _ session e)
          (facts_renewing (renewal_asked moment key client.session.watchdog) client.renewed)
      by session (Some fault) e = absurd (cc e)

  -- a reply comes
  pub facts_renewed : (key : WatchKey) (reply : Option Reply)
      → Facts n present (with_renewed key reply client) connection
  facts_renewed key reply =
      facts_renewing client.session.watchdog (put same_watch client.renewed key reply)

  -- the facts of a client with this session that has taken the reply to a renewal
  abbrev Then : WatchKey → Session → Type 0
  Then key session =
      Facts n present (record (with_renewed key None client) { session = session }) connection

  -- take
  pub facts_take_renewed : (key : WatchKey) (after : Client)
      → take_renewed key client ≡ Some after → Facts n present after connection
  facts_take_renewed key after = by (client.renewed key)
    where
      ends : (reply : Reply) (session : Session) (found : Option Renewal)
          → option_map
          (λ renewal.
          with_watchdog (renewal_taken (is_renewed reply) key client.session.watchdog)
          client.session)
          found
          ≡ Some session → Then key session
      ends reply session None e = absurd (cc e)
      ends reply session (Some renewal) e =
          subst (Then key) (same_Some _ session e)
          (facts_renewing (renewal_taken (is_renewed reply) key client.session.watchdog)
          (put same_watch client.renewed key None))

      by : (found : Option Reply) → take_renewed_with key found client ≡ Some after
          → Facts n present after connection
      by None e = absurd (cc e)
      by (Some reply) e =
          applies (renewed_row key reply) (with_renewed key None client) after
          (λ c. Facts n present c connection)
          (λ session. ends reply session (client.session.watchdog.renewals key)) e
