-- What is so of a client's watchdog stays so where only the requests of its threads change.
use Rattle.std.proofs.Common.{◌≡◌, ℕ, suc, ◌≤◌, ◌==◌, List, Bool, true, false, Option, Some, None, if◌then◌else◌, refl, sym, ap, ◌∙◌, subst, arith}
use Rattle.std.specs.Option.{option_map}
use Rattle.std.proofs.lemmas.Bool.{eqb-true, eq-eqb}
use Rattle.lr_objects.specs.declared.reply.Reply.{Reply}
use Rattle.lr_model.specs.Answer.{Objects}
use Rattle.lr_model.specs.Table.{put}
use Rattle.lr_waiting.specs.declared.waiter.Waiter.{Waiter}
use Rattle.lr_waiting.specs.declared.watch.WatchKey.{WatchKey}
use Rattle.lr_waiting.specs.Client.{Client, client_row}
use Rattle.lr_waiting.specs.Session.{Session, of_waiter}
use Rattle.lr_waiting.specs.Watchdog.{Watchdog}
use Rattle.lr_machine_renewals.specs.WatchFacts.{SentAt, SentWith, WatchedWith, RenewedWith, AreWatched}

-- a step of a client's core, where it applies
abbrev pub CoreWatched : ℕ → Objects → ℕ → List ℕ → Client → Option Session → Type 0
CoreWatched n objects moment id client None = Unit {0}
CoreWatched n objects moment id client (Some session) =
    AreWatched n objects moment id (record client { session = session })

-- the same of a client with its replies
abbrev pub ClientWatched : ℕ → Objects → ℕ → List ℕ → Option Client → Type 0
ClientWatched n objects moment id None = Unit {0}
ClientWatched n objects moment id (Some client) = AreWatched n objects moment id client

pub watched-client_row : (n : ℕ) (objects : Objects) (moment : ℕ) (id : List ℕ)
    (row : Session → Option Session) (client : Client)
    → CoreWatched n objects moment id client (row client.session)
    → ClientWatched n objects moment id (client_row row client)
watched-client_row n objects moment id row client = by (row client.session)
  where
    by : (found : Option Session) → CoreWatched n objects moment id client found
        → ClientWatched n objects moment id
        (option_map (λ session. record client { session = session }) found)
    by None kept = tt
    by (Some session) kept = kept

-- there may be more grants
pub watched-more : (n : ℕ) (objects : Objects) (moment : ℕ) (id : List ℕ) (client : Client)
    → AreWatched n objects moment id client → AreWatched (suc n) objects moment id client
watched-more n objects moment id client were = record {
  own = were.own;
  lease = were.lease;
  grants = omega (arith, were.grants);
  watches = were.watches;
  renewals = were.renewals;
  threads = were.threads;
}

module _ (n : ℕ) (objects : Objects) (moment : ℕ) (id : List ℕ) (client : Client)
    (were : AreWatched n objects moment id client) where
  -- what is sent by a thread, with this request and this reply
  abbrev pub Sent : ℕ → Option Waiter → Option Reply → Type 0
  Sent thread found reply =
      SentWith objects moment client.session.watchdog.watches
      (record { client = id; thread = thread }) found reply

  -- the requests and the replies of threads change
  pub watched-threads : (after : Client) → after.session.client ≡ client.session.client
      → after.session.watchdog ≡ client.session.watchdog → after.renewed ≡ client.renewed
      → ((thread : ℕ) → Sent thread (after.session.waiters thread) (after.replies thread))
      → AreWatched n objects moment id after
  watched-threads after own dog renewed threads = record {
    own = own ∙ were.own;
    lease = ap (λ (w : Watchdog). w.lease) dog ∙ were.lease;
    grants = subst (λ (w : Watchdog). w.generation ≤ n) (sym dog) were.grants;
    watches = λ key.
        subst
        (λ (w : Watchdog). WatchedWith objects moment id w.generation key (w.watches key))
        (sym dog) (were.watches key);
    renewals = λ key.
        subst
        (λ (w : Watchdog). RenewedWith objects moment w.generation key (w.watches key)
        (w.renewals key) (after.renewed key))
        (sym dog)
        (subst
        (λ (r : WatchKey → Option Reply). RenewedWith objects moment
        client.session.watchdog.generation key (client.session.watchdog.watches key)
        (client.session.watchdog.renewals key) (r key))
        (sym renewed) (were.renewals key));
    threads = λ thread.
        subst
        (λ (w : Watchdog). SentWith objects moment w.watches
        (record { client = id; thread = thread }) (after.session.waiters thread)
        (after.replies thread))
        (sym dog) (threads thread);
  }

  -- those of one thread change
  pub watched-thread : (thread : ℕ) (after : Client)
      → after.session.client ≡ client.session.client
      → after.session.watchdog ≡ client.session.watchdog → after.renewed ≡ client.renewed
      → ((t : ℕ) → (thread == t) ≡ false
      → (after.session.waiters t ≡ client.session.waiters t)
      × (after.replies t ≡ client.replies t))
      → Sent thread (after.session.waiters thread) (after.replies thread)
      → AreWatched n objects moment id after
  watched-thread thread after own dog renewed others here =
      watched-threads after own dog renewed (λ t. by t (thread == t) refl)
    where
      by : (t : ℕ) (same : Bool) → (thread == t) ≡ same
          → Sent t (after.session.waiters t) (after.replies t)
      by t true e =
          subst (λ k. Sent k (after.session.waiters k) (after.replies k)) (eqb-true thread t e) here
      by t false e =
          let stay = others t e in
          subst (λ (found : Option Waiter). Sent t found (after.replies t)) (sym stay.0)
          (subst (λ (reply : Option Reply). Sent t (client.session.waiters t) reply) (sym stay.1)
          (were.threads t))

  -- the request of one thread becomes another
  pub watched-request : (thread : ℕ) (after : Session) (found : Option Waiter)
      → Sent thread found (client.replies thread) → after.client ≡ client.session.client
      → after.watchdog ≡ client.session.watchdog
      → after.waiters ≡ put ◌==◌ client.session.waiters thread found
      → AreWatched n objects moment id (record client { session = after })
  watched-request thread after found here own dog changed =
      watched-thread thread (record client { session = after }) own dog refl
      (λ t e. (
        ap (λ (w : ℕ → Option Waiter). w t) changed
            ∙ ap (λ b. if b then found else client.session.waiters t) e,
        refl,
      ))
      (subst (λ (f : Option Waiter). Sent thread f (client.replies thread))
      (sym
      (ap (λ (w : ℕ → Option Waiter). w thread) changed
      ∙ ap (λ b. if b then found else client.session.waiters thread)
      (eq-eqb thread thread refl)))
      here)

  -- a row of one thread, whose call was sent or whose reply doesn't wait
  pub watched-row : (thread : ℕ) (row : Waiter → Option Session)
      → ((waiter : Waiter)
      → SentAt objects moment client.session.watchdog.watches
      (record { client = id; thread = thread }) waiter.want waiter.stage (client.replies thread)
      → CoreWatched n objects moment id client (row waiter))
      → CoreWatched n objects moment id client (of_waiter row (client.session.waiters thread))
  watched-row thread row all = by (client.session.waiters thread) (were.threads thread)
    where
      by : (found : Option Waiter) → Sent thread found (client.replies thread)
          → CoreWatched n objects moment id client (of_waiter row found)
      by None sent = tt
      by (Some waiter) sent = all waiter sent
