-- What is so of a client's watchdog stays so where the watch or the renewal of one hold changes.
use Rattle.std.proofs.Common.{◌≡◌, ℕ, suc, ◌+◌, ◌<◌, ◌≤◌, ◌==◌, ◌^◌, List, Bool, true, false, Option, Some, None, is_some, if◌then◌else◌, refl, sym, ap, ◌∙◌, subst, arith}
use Rattle.std.specs.Option.{option_map}
use Rattle.std.proofs.lemmas.Bool.{false≢true, eqb-true, eq-eqb}
use Rattle.std.proofs.lemmas.Option.{none-some, same_Some}
use Rattle.lr_limits.specs.Limits.{watchdog_lease}
use Rattle.lr_names.specs.Owner.{ThreadOfClient}
use Rattle.lr_objects.specs.declared.reply.Reply.{Reply}
use Rattle.lr_objects.specs.declared.want.Want.{Want}
use Rattle.lr_model.specs.Answer.{Objects}
use Rattle.lr_model.specs.Table.{put}
use Rattle.lr_waiting.specs.declared.waiter.Stage.{Stage}
use Rattle.lr_waiting.specs.declared.waiter.Stage.TheVariants.{Fresh, Asked, Joining, Ready, Refused, Asleep, Leaving}
use Rattle.lr_waiting.specs.declared.waiter.Waiter.{Waiter}
use Rattle.lr_waiting.specs.declared.watch.Renewal.{Renewal}
use Rattle.lr_waiting.specs.declared.watch.Watch.{Watch}
use Rattle.lr_waiting.specs.declared.watch.WatchKey.{WatchKey}
use Rattle.lr_waiting.specs.declared.watch.WatchKind.{WatchKind}
use Rattle.lr_waiting.specs.Client.{Client}
use Rattle.lr_waiting.specs.Latch.{next_count}
use Rattle.lr_waiting.specs.Session.{with_watchdog, watch_key, watch_kind}
use Rattle.lr_waiting.specs.Watchdog.{Watchdog, same_watch, due_from, watch_granted, watch_dropped}
use Rattle.lr_machine_renewals.specs.WatchFacts.{LastsUntil, WatchedWith, is_current, RenewedWith, key_for, SentAt, SentWith, AreWatched}
use Rattle.lr_machine_renewals.proofs.KeyLaws.{watch-one, watch-same}

-- the hold of a want is its owner's
pub key-owner : (owner : ThreadOfClient) (want : Want) (key : WatchKey)
    → key_for owner want ≡ Some key → key.owner ≡ owner
key-owner owner want key = by (watch_kind want.function)
  where
    by : (kind : Option WatchKind) → option_map (watch_key owner want.name) kind ≡ Some key
        → key.owner ≡ owner
    by None e = absurd (none-some key e)
    by (Some kind) e =
        ap (λ (k : WatchKey). k.owner) (sym (same_Some (watch_key owner want.name kind) key e))

-- a table with another entry, at the key and elsewhere
pub put-here : {V : Type 0} (table : WatchKey → V) (key : WatchKey) (v : V)
    → put same_watch table key v key ≡ v
put-here table key v = ap (λ b. if b then v else table key) (watch-same key)

pub put-apart : {V : Type 0} (table : WatchKey → V) (key : WatchKey) (v : V) (other : WatchKey)
    → same_watch key other ≡ false → put same_watch table key v other ≡ table other
put-apart table key v other apart = ap (λ b. if b then v else table other) apart

-- There may be more grants.

watched-grants : (objects : Objects) (moment : ℕ) (id : List ℕ) (grants more : ℕ) (key : WatchKey)
    (watch : Option Watch) → grants ≤ more → WatchedWith objects moment id grants key watch
    → WatchedWith objects moment id more key watch
watched-grants objects moment id grants more key None le was = tt
watched-grants objects moment id grants more key (Some watch) le was = record {
  own = was.own;
  grant = omega (arith, was.grant, le);
  soon = was.soon;
  lasts = was.lasts;
}

-- and a renewal of another grant than the watch promises nothing
renewed-grants : (objects : Objects) (moment grants more : ℕ) (key : WatchKey)
    (watch now : Option Watch) (renewal : Option Renewal) (reply : Option Reply) → grants ≤ more
    → ((r : Renewal) → r.generation ≤ grants → is_current now r ≡ true
    → is_current watch r ≡ true)
    → RenewedWith objects moment grants key watch renewal reply
    → RenewedWith objects moment more key now renewal reply
renewed-grants objects moment grants more key watch now None reply le same was = was
renewed-grants objects moment grants more key watch now (Some renewal) reply le same was = record {
  past = was.past;
  grant = omega (arith, was.grant, le);
  lasts = λ renewed current. was.lasts renewed (same renewal was.grant current);
}

-- Watches may end that don't concern a thread.

sent-fewer : (objects : Objects) (moment : ℕ) (watches fewer : WatchKey → Option Watch)
    (owner : ThreadOfClient)
    → ((key : WatchKey) → key.owner ≡ owner → is_some (fewer key) ≡ true
    → is_some (watches key) ≡ true)
    → (found : Option Waiter) (reply : Option Reply)
    → SentWith objects moment watches owner found reply
    → SentWith objects moment fewer owner found reply
sent-fewer objects moment watches fewer owner were None reply sent = sent
sent-fewer objects moment watches fewer owner were (Some waiter) reply sent =
    by waiter.stage sent
  where
    by : (stage : Stage) → SentAt objects moment watches owner waiter.want stage reply
        → SentAt objects moment fewer owner waiter.want stage reply
    by (Asked asking) made = record {
      lease = made.lease;
      queue = made.queue;
      op = made.op;
      past = made.past;
      under = made.under;
      noted = λ key about watched.
          made.noted key about (were key (key-owner owner waiter.want key about) watched);
      lasts = made.lasts;
    }
    by (Fresh turn) none = none
    by Joining none = none
    by (Ready turn) none = none
    by (Refused refusal) none = none
    by (Asleep refusal) none = none
    by (Leaving turn) none = none

module _ (n : ℕ) (objects : Objects) (moment : ℕ) (id : List ℕ) (client : Client)
    (were : AreWatched n objects moment id client) (key : WatchKey) where
  abbrev dog : Watchdog
  dog = client.session.watchdog

  abbrev owner : ℕ → ThreadOfClient
  owner thread = record { client = id; thread = thread }

  -- all of another hold stays
  abbrev Stays : Watchdog → (WatchKey → Option Reply) → WatchKey → Type 0
  Stays after renewed other =
      (after.watches other ≡ dog.watches other) × (after.renewals other ≡ dog.renewals other)
      × (renewed other ≡ client.renewed other)

  -- what is of one hold changes
  pub watched-hold : (after : Watchdog) (renewed : WatchKey → Option Reply)
      → after.lease ≡ dog.lease → dog.generation ≤ after.generation → after.generation ≤ suc n
      → ((other : WatchKey) → same_watch key other ≡ false → Stays after renewed other)
      → WatchedWith objects moment id after.generation key (after.watches key)
      → RenewedWith objects moment after.generation key (after.watches key) (after.renewals key)
      (renewed key)
      → ((thread : ℕ)
      → SentWith objects moment after.watches (owner thread) (client.session.waiters thread)
      (client.replies thread))
      → AreWatched (suc n) objects moment id
      (record {
        session = with_watchdog after client.session;
        replies = client.replies;
        renewed = renewed;
      })
  watched-hold after renewed lease more few others watch renewal threads = record {
    own = were.own;
    lease = lease ∙ were.lease;
    grants = few;
    watches = λ other. watch_of other (same_watch key other) refl;
    renewals = λ other. renewal_of other (same_watch key other) refl;
    threads = threads;
  }
    where
      watch_of : (other : WatchKey) (same : Bool) → same_watch key other ≡ same
          → WatchedWith objects moment id after.generation other (after.watches other)
      watch_of other true e =
          subst (λ k. WatchedWith objects moment id after.generation k (after.watches k))
          (watch-one key other e) watch
      watch_of other false e =
          subst (WatchedWith objects moment id after.generation other) (sym (others other e).0)
          (watched-grants objects moment id dog.generation after.generation other
          (dog.watches other) more (were.watches other))

      renewal_of : (other : WatchKey) (same : Bool) → same_watch key other ≡ same
          → RenewedWith objects moment after.generation other (after.watches other)
          (after.renewals other) (renewed other)
      renewal_of other true e =
          subst
          (λ k. RenewedWith objects moment after.generation k (after.watches k)
          (after.renewals k) (renewed k))
          (watch-one key other e) renewal
      renewal_of other false e =
          let stay = others other e in
          subst
          (λ (w : Option Watch). RenewedWith objects moment after.generation other w
          (after.renewals other) (renewed other))
          (sym stay.0)
          (subst
          (λ (r : Option Renewal). RenewedWith objects moment after.generation other
          (dog.watches other) r (renewed other))
          (sym stay.1)
          (subst
          (λ (r : Option Reply). RenewedWith objects moment after.generation other
          (dog.watches other) (dog.renewals other) r)
          (sym stay.2)
          (renewed-grants objects moment dog.generation after.generation other
          (dog.watches other) (dog.watches other) (dog.renewals other) (client.renewed other)
          more (λ r few current. current) (were.renewals other))))

  -- the threads, where no watch begins
  pub threads-fewer : (fewer : WatchKey → Option Watch)
      → ((other : WatchKey) → is_some (fewer other) ≡ true → is_some (dog.watches other) ≡ true)
      → (thread : ℕ)
      → SentWith objects moment fewer (owner thread) (client.session.waiters thread)
      (client.replies thread)
  threads-fewer fewer kept thread =
      sent-fewer objects moment dog.watches fewer (owner thread)
      (λ other own watched. kept other watched) (client.session.waiters thread)
      (client.replies thread) (were.threads thread)

  -- and where a watch begins of a thread that has no request
  threads-begun : (watch : Watch) (thread : ℕ) → key.owner ≡ owner thread
      → client.session.waiters thread ≡ None → (t : ℕ)
      → SentWith objects moment (put same_watch dog.watches key (Some watch)) (owner t)
      (client.session.waiters t) (client.replies t)
  threads-begun watch thread own none t = by (thread == t) refl
    where
      begun : WatchKey → Option Watch
      begun = put same_watch dog.watches key (Some watch)

      apart : (thread == t) ≡ false → (other : WatchKey) → other.owner ≡ owner t → (same : Bool)
          → same_watch key other ≡ same
          → is_some (if same then Some watch else dog.watches other) ≡ true
          → is_some (dog.watches other) ≡ true
      apart e other other_own true same watched =
          let one : key ≡ other = watch-one key other same in
          let turn : thread ≡ t =
          ap (λ (o : ThreadOfClient). o.thread)
          (sym own ∙ ap (λ (k : WatchKey). k.owner) one ∙ other_own) in
          absurd (false≢true (sym e ∙ eq-eqb thread t turn))
      apart e other other_own false same watched = watched

      by : (same : Bool) → (thread == t) ≡ same
          → SentWith objects moment begun (owner t) (client.session.waiters t) (client.replies t)
      by true e =
          subst
          (λ k. SentWith objects moment begun (owner k) (client.session.waiters k)
          (client.replies k))
          (eqb-true thread t e)
          (subst
          (λ (f : Option Waiter). SentWith objects moment begun (owner thread) f
          (client.replies thread))
          (sym none)
          (subst
          (λ (f : Option Waiter). SentWith objects moment dog.watches (owner thread) f
          (client.replies thread))
          none (were.threads thread)))
      by false e =
          sent-fewer objects moment dog.watches begun (owner t)
          (λ other other_own watched. apart e other other_own (same_watch key other) refl watched)
          (client.session.waiters t) (client.replies t) (were.threads t)

  -- A grant begins a watch.
  pub watched-begun : suc n < 2 ^ 64 → (thread at : ℕ) → key.owner ≡ owner thread
      → client.session.waiters thread ≡ None → at ≤ moment
      → LastsUntil objects moment key (at + watchdog_lease)
      → AreWatched (suc n) objects moment id
      (record client {
        session = with_watchdog (watch_granted at key dog) client.session;
      })
  watched-begun few thread at own none past lasts =
      watched-hold (watch_granted at key dog) client.renewed refl
      (omega (arith, counted, were.grants)) (omega (arith, counted, were.grants))
      (λ other apart. (put-apart dog.watches key (Some watch) other apart, refl, refl))
      (subst (WatchedWith objects moment id watch.generation key)
      (sym (put-here dog.watches key (Some watch)))
      (record {
        own = ap (λ (o : ThreadOfClient). o.client) own;
        grant = omega arith;
        soon = omega (arith, due, past);
        lasts = λ deadline held. omega (arith, due, lasts deadline held);
      }))
      (subst
      (λ (w : Option Watch). RenewedWith objects moment watch.generation key w
      (dog.renewals key) (client.renewed key))
      (sym (put-here dog.watches key (Some watch)))
      (renewed-grants objects moment dog.generation watch.generation key (dog.watches key)
      (Some watch) (dog.renewals key) (client.renewed key) (omega (arith, counted))
      (λ r old current.
      let same = eqb-true watch.generation r.generation current in
      absurd (omega (arith, same, old, counted)))
      (were.renewals key)))
      (threads-begun watch thread own none)
    where
      watch : Watch
      watch = record {
        due = due_from at dog.lease;
        generation = next_count dog.generation;
      }

      counted : watch.generation ≡ dog.generation + 1
      counted = omega (arith, were.grants, few)

      due : watch.due ≡ due_from at watchdog_lease
      due = ap (due_from at) were.lease

  -- A watch ends.
  pub watched-dropped : AreWatched (suc n) objects moment id
      (record client { session = with_watchdog (watch_dropped key dog) client.session })
  watched-dropped =
      watched-hold (watch_dropped key dog) client.renewed refl (omega arith)
      (omega (arith, were.grants))
      (λ other apart. (put-apart dog.watches key None other apart, refl, refl))
      (subst (WatchedWith objects moment id dog.generation key)
      (sym (put-here dog.watches key None)) tt)
      (subst
      (λ (w : Option Watch). RenewedWith objects moment dog.generation key w
      (dog.renewals key) (client.renewed key))
      (sym (put-here dog.watches key None))
      (renewed-grants objects moment dog.generation dog.generation key (dog.watches key) None
      (dog.renewals key) (client.renewed key) (omega arith)
      (λ r old current. absurd (false≢true current)) (were.renewals key)))
      (threads-fewer (put same_watch dog.watches key None)
      (λ other. fewer other (same_watch key other)))
    where
      fewer : (other : WatchKey) (same : Bool)
          → is_some (if same then None else dog.watches other) ≡ true
          → is_some (dog.watches other) ≡ true
      fewer other true watched = absurd (false≢true watched)
      fewer other false watched = watched
