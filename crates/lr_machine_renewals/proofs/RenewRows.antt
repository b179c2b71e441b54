-- A renewal is asked for, and its reply is taken: what is so of its client's watchdog stays so.
use Rattle.std.proofs.Common.{◌≡◌, ℕ, suc, List, Bool, true, false, Option, Some, None, is_some, if◌then◌else◌, refl, sym, ap, ◌∙◌, subst, arith}
use Rattle.std.specs.Option.{option_map}
use Rattle.std.proofs.lemmas.Bool.{false≢true}
use Rattle.std.proofs.lemmas.Option.{none-some}
use Rattle.lr_limits.specs.Limits.{watchdog_lease}
use Rattle.lr_objects.specs.declared.reply.Reply.{Reply}
use Rattle.lr_objects.specs.declared.reply.Reply.TheVariants as replies
use Rattle.lr_model.specs.Answer.{Objects}
use Rattle.lr_model.specs.Table.{put}
use Rattle.lr_waiting.specs.declared.watch.RenewFault.{RenewFault}
use Rattle.lr_waiting.specs.declared.watch.RenewFault.TheVariants as faults
use Rattle.lr_waiting.specs.declared.watch.Renewal.{Renewal}
use Rattle.lr_waiting.specs.declared.watch.Watch.{Watch}
use Rattle.lr_waiting.specs.declared.watch.WatchKey.{WatchKey}
use Rattle.lr_waiting.specs.Client.{Client, with_renewed, take_renewed_with, take_renewed}
use Rattle.lr_waiting.specs.Session.{renew_row, renew_unless, renewed_row, with_watchdog}
use Rattle.lr_waiting.specs.Watchdog.{Watchdog, same_watch, due_from, is_of, is_renewed, renew_fault, renew_fault_with, renewal_noted, renewal_ended, watch_renewed, watch_after}
use Rattle.lr_machine_renewals.specs.WatchFacts.{IsWatch, WatchedWith, IsRenewal, RenewedWith, AreWatched}
use Rattle.lr_machine_renewals.proofs.Watched.{CoreWatched, ClientWatched, watched-client_row}
use Rattle.lr_machine_renewals.proofs.KeyLaws.{watch-one}
use Rattle.lr_machine_renewals.proofs.WatchChanges.{put-here, put-apart, watched-hold, threads-fewer}

module _ (n : ℕ) (objects : Objects) (moment : ℕ) (id : List ℕ) (client : Client)
    (were : AreWatched n objects moment id client) (key : WatchKey) where
  abbrev dog : Watchdog
  dog = client.session.watchdog

  -- A renewal is asked for now: none was, so no reply waits.

  watched-noted : (watch : Watch) → dog.watches key ≡ Some watch → dog.renewals key ≡ None
      → AreWatched (suc n) objects moment id
      (record client {
        session = with_watchdog (renewal_noted moment key (Some watch) dog) client.session;
      })
  watched-noted watch e none =
      watched-hold n objects moment id client were key
      (renewal_noted moment key (Some watch) dog) client.renewed refl (omega arith)
      (omega (arith, were.grants))
      (λ other apart. (refl, put-apart dog.renewals key (Some renewal) other apart, refl))
      (were.watches key)
      (subst
      (λ (r : Option Renewal). RenewedWith objects moment dog.generation key (dog.watches key) r
      (client.renewed key))
      (sym (put-here dog.renewals key (Some renewal)))
      (record {
        past = omega arith;
        grant = seen.grant;
        lasts = λ renewed current. absurd (none-some replies.Renewed (sym unanswered ∙ renewed));
      }))
      were.threads
    where
      renewal : Renewal
      renewal = record { generation = watch.generation; at = moment }

      seen : IsWatch objects moment id dog.generation key watch
      seen = subst (WatchedWith objects moment id dog.generation key) e (were.watches key)

      unanswered : client.renewed key ≡ None
      unanswered =
          subst
          (λ (r : Option Renewal). RenewedWith objects moment dog.generation key
          (dog.watches key) r (client.renewed key))
          none (were.renewals key)

  pub watched-renew : CoreWatched (suc n) objects moment id client
      (renew_row key moment client.session)
  watched-renew = by (renew_fault moment key dog) refl
    where
      asked : (watch : Option Watch) (renewal : Option Renewal) → dog.watches key ≡ watch
          → dog.renewals key ≡ renewal → renew_fault_with moment watch renewal ≡ None
          → AreWatched (suc n) objects moment id
          (record client {
            session = with_watchdog (renewal_noted moment key watch dog) client.session;
          })
      asked None renewal e f fits = absurd (none-some faults.NoWatch (sym fits))
      asked (Some watch) (Some renewal) e f fits =
          absurd (none-some faults.Renewing (sym fits))
      asked (Some watch) None e f fits = watched-noted watch e f

      by : (fault : Option RenewFault) → renew_fault moment key dog ≡ fault
          → CoreWatched (suc n) objects moment id client
          (renew_unless fault moment key client.session)
      by (Some fault) e = tt
      by None e = asked (dog.watches key) (dog.renewals key) refl refl e

  -- The reply to a renewal is taken.

  -- what renews the hold lets its watch fall due later, and what doesn't ends it
  watch-renewed : (reply : Reply) (watch : Watch) (renewal : Renewal)
      → IsWatch objects moment id dog.generation key watch
      → IsRenewal objects moment dog.generation key (Some watch) renewal (Some reply)
      → is_of watch renewal ≡ true → (renewed : Bool) → is_renewed reply ≡ renewed
      → WatchedWith objects moment id dog.generation key
      (watch_renewed renewed dog.lease watch renewal)
  watch-renewed reply watch renewal seen asked current true e = record {
    own = seen.own;
    grant = seen.grant;
    soon = omega (arith, due, asked.past);
    lasts = λ deadline held.
        omega (arith, due, asked.lasts (ap Some (was_renewed reply e)) current deadline held);
  }
    where
      due : due_from renewal.at dog.lease ≡ due_from renewal.at watchdog_lease
      due = ap (due_from renewal.at) were.lease

      was_renewed : (r : Reply) → is_renewed r ≡ true → r ≡ replies.Renewed
      was_renewed replies.Renewed is = refl
      was_renewed _ is = absurd (false≢true is)
  watch-renewed reply watch renewal seen asked current false e = tt

  watch-after : (reply : Reply) (watch : Option Watch) (renewal : Renewal)
      → WatchedWith objects moment id dog.generation key watch
      → IsRenewal objects moment dog.generation key watch renewal (Some reply)
      → WatchedWith objects moment id dog.generation key
      (watch_after (is_renewed reply) dog.lease watch renewal)
  watch-after reply None renewal seen asked = tt
  watch-after reply (Some watch) renewal seen asked = by (is_of watch renewal) refl
    where
      by : (current : Bool) → is_of watch renewal ≡ current
          → WatchedWith objects moment id dog.generation key
          (if current then watch_renewed (is_renewed reply) dog.lease watch renewal
          else Some watch)
      by true e = watch-renewed reply watch renewal seen asked e (is_renewed reply) refl
      by false e = seen

  -- no watch begins by it
  still-watched : (renewed : Bool) (watch : Option Watch) (renewal : Renewal)
      → is_some (watch_after renewed dog.lease watch renewal) ≡ true → is_some watch ≡ true
  still-watched renewed None renewal watched = watched
  still-watched renewed (Some watch) renewal watched = refl

  watched-ended : (reply : Reply) (renewal : Renewal)
      → IsRenewal objects moment dog.generation key (dog.watches key) renewal (Some reply)
      → AreWatched (suc n) objects moment id
      (record {
        session = with_watchdog (renewal_ended (is_renewed reply) key (Some renewal) dog)
            client.session;
        replies = client.replies;
        renewed = put same_watch client.renewed key None;
      })
  watched-ended reply renewal asked =
      watched-hold n objects moment id client were key
      (renewal_ended (is_renewed reply) key (Some renewal) dog)
      (put same_watch client.renewed key None) refl (omega arith) (omega (arith, were.grants))
      (λ other apart. (
        put-apart dog.watches key now other apart,
        put-apart dog.renewals key None other apart,
        put-apart client.renewed key None other apart,
      ))
      (subst (WatchedWith objects moment id dog.generation key)
      (sym (put-here dog.watches key now))
      (watch-after reply (dog.watches key) renewal (were.watches key) asked))
      (subst
      (λ (r : Option Renewal). RenewedWith objects moment dog.generation key
      (put same_watch dog.watches key now key) r (put same_watch client.renewed key None key))
      (sym (put-here dog.renewals key None)) (put-here client.renewed key None))
      (threads-fewer n objects moment id client were key (put same_watch dog.watches key now)
      (λ other. fewer other (same_watch key other) refl))
    where
      now : Option Watch
      now = watch_after (is_renewed reply) dog.lease (dog.watches key) renewal

      fewer : (other : WatchKey) (same : Bool) → same_watch key other ≡ same
          → is_some (if same then now else dog.watches other) ≡ true
          → is_some (dog.watches other) ≡ true
      fewer other true e watched =
          subst (λ k. is_some (dog.watches k) ≡ true) (watch-one key other e)
          (still-watched (is_renewed reply) (dog.watches key) renewal watched)
      fewer other false e watched = watched

  watched-renewed : (reply : Reply) → client.renewed key ≡ Some reply
      → CoreWatched (suc n) objects moment id (with_renewed key None client)
      (renewed_row key reply client.session)
  watched-renewed reply e =
      by (dog.renewals key)
      (subst
      (λ (r : Option Reply). RenewedWith objects moment dog.generation key (dog.watches key)
      (dog.renewals key) r)
      e (were.renewals key))
    where
      by : (found : Option Renewal)
          → RenewedWith objects moment dog.generation key (dog.watches key) found (Some reply)
          → CoreWatched (suc n) objects moment id (with_renewed key None client)
          (option_map
          (λ renewal. with_watchdog (renewal_ended (is_renewed reply) key found dog)
          client.session)
          found)
      by None none = tt
      by (Some renewal) asked = watched-ended reply renewal asked

  pub watched-take_renewed : ClientWatched (suc n) objects moment id (take_renewed key client)
  watched-take_renewed = by (client.renewed key) refl
    where
      by : (found : Option Reply) → client.renewed key ≡ found
          → ClientWatched (suc n) objects moment id (take_renewed_with key found client)
      by None e = tt
      by (Some reply) e =
          watched-client_row (suc n) objects moment id (renewed_row key reply)
          (with_renewed key None client) (watched-renewed reply e)
