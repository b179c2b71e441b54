-- What is so of a client's watchdog stays so as the server runs calls and as time goes on.
use Rattle.std.proofs.Common.{◌≡◌, ℕ, ◌+◌, ◌<◌, ◌≤◌, ◌^◌, List, true, Option, Some, None, is_some, refl, sym, ap, ◌∙◌, arith, ◌⊎◌, inl, inr}
use Rattle.std.specs.Int.{w128, from_be_bytes}
use Rattle.std.proofs.lemmas.Bool.{false≢true}
use Rattle.std.proofs.lemmas.Option.{none-some, same_Some}
use Rattle.uuid.proofs.OrderLemmas.{from_be_bytes-to_be_bytes_16}
use Rattle.lr_limits.specs.Limits.{watchdog_lease}
use Rattle.lr_names.specs.Owner.{ThreadOfClient}
use Rattle.lr_objects.specs.Want.{op_of}
use Rattle.lr_objects.specs.declared.op.Op.{Op}
use Rattle.lr_objects.specs.declared.reply.Reply.{Reply}
use Rattle.lr_objects.specs.declared.want.Want.{Want}
use Rattle.lr_model.specs.Answer.{Objects, reply_of}
use Rattle.lr_model.specs.Tenure.{lease_given}
use Rattle.lr_waiting.specs.declared.waiter.Asking.{Asking}
use Rattle.lr_waiting.specs.declared.waiter.Stage.{Stage}
use Rattle.lr_waiting.specs.declared.waiter.Stage.TheVariants.{Fresh, Asked, Joining, Ready, Refused, Asleep, Leaving}
use Rattle.lr_waiting.specs.declared.waiter.Waiter.{Waiter}
use Rattle.lr_waiting.specs.declared.watch.Renewal.{Renewal}
use Rattle.lr_waiting.specs.declared.watch.Watch.{Watch}
use Rattle.lr_waiting.specs.declared.watch.WatchKey.{WatchKey}
use Rattle.lr_waiting.specs.Client.{Client, cut_client, asked_at, asked_by, asked_of}
use Rattle.lr_waiting.specs.Peak.{gives_deadline}
use Rattle.lr_waiting.specs.Session.{leaving_function, leaving_want}
use Rattle.lr_machine.specs.Clients.{client_id}
use Rattle.lr_machine.specs.Renewals.{held_until}
use Rattle.lr_machine.specs.Within.{IsClient}
use Rattle.lr_machine_renewals.specs.Kept.{op_key}
use Rattle.lr_machine_renewals.specs.WatchFacts.{LastsUntil, WatchedWith, is_current, RenewedWith, key_for, has_given, IsSent, SentAt, SentWith, AreWatched}
use Rattle.lr_machine_renewals.proofs.KeyLaws.{want-key, want-lease, grant-key, leaving-key, leaving-lease, leaving-grant}
use Rattle.lr_machine_renewals.proofs.WatchChanges.{key-owner}

-- Holds that last.

module _ (objects after : Objects) (moment later : ℕ) where
  -- a hold that is live later is live now as long, or lasts for the lease from then
  abbrev pub LastsOn : WatchKey → Type 0
  LastsOn key =
      (deadline : ℕ) → held_until after key later ≡ Some deadline
      → (held_until objects key moment ≡ Some deadline) ⊎ (later + watchdog_lease ≤ deadline)

  lasting : (key : WatchKey) (end : ℕ) → LastsOn key → end ≤ later + watchdog_lease
      → LastsUntil objects moment key end → LastsUntil after later key end
  lasting key end on le lasts deadline held = by (on deadline held)
    where
      by : (held_until objects key moment ≡ Some deadline) ⊎ (later + watchdog_lease ≤ deadline)
          → end ≤ deadline
      by (inl same) = lasts deadline same
      by (inr given) = omega (arith, le, given)

  module _ (n : ℕ) (id : List ℕ) (client : Client) (le : moment ≤ later)
      (were : AreWatched n objects moment id client)
      (watched : (key : WatchKey)
      → is_some (client.session.watchdog.watches key) ≡ true → LastsOn key)
      (replied : (thread : ℕ) (reply : Reply) (key : WatchKey)
      → client.replies thread ≡ Some reply
      → key.owner ≡ record { client = id; thread = thread } → LastsOn key) where
    watch-on : (key : WatchKey) (watch : Option Watch)
        → client.session.watchdog.watches key ≡ watch
        → WatchedWith objects moment id client.session.watchdog.generation key watch
        → WatchedWith after later id client.session.watchdog.generation key watch
    watch-on key None e was = tt
    watch-on key (Some watch) e was = record {
      own = was.own;
      grant = was.grant;
      soon = omega (arith, was.soon, le);
      lasts =
          lasting key _ (watched key (ap is_some e)) (omega (arith, was.soon, le)) was.lasts;
    }

    is-watched : (watch : Option Watch) (renewal : Renewal) → is_current watch renewal ≡ true
        → is_some watch ≡ true
    is-watched None renewal current = absurd (false≢true current)
    is-watched (Some watch) renewal current = refl

    renewal-on : (key : WatchKey) (renewal : Option Renewal) (reply : Option Reply)
        → RenewedWith objects moment client.session.watchdog.generation key
        (client.session.watchdog.watches key) renewal reply
        → RenewedWith after later client.session.watchdog.generation key
        (client.session.watchdog.watches key) renewal reply
    renewal-on key None reply none = none
    renewal-on key (Some renewal) reply asked = record {
      past = omega (arith, asked.past, le);
      grant = asked.grant;
      lasts = λ renewed current.
          lasting key (renewal.at + watchdog_lease)
          (watched key
          (is-watched (client.session.watchdog.watches key) renewal current))
          (omega (arith, asked.past, le)) (asked.lasts renewed current);
    }

    replied-on : (thread : ℕ) (key : WatchKey) (reply : Option Reply)
        → client.replies thread ≡ reply → has_given reply ≡ true
        → key.owner ≡ record { client = id; thread = thread } → LastsOn key
    replied-on thread key None e given = absurd (false≢true given)
    replied-on thread key (Some reply) e given = replied thread reply key e

    sent-on : (thread : ℕ) (want : Want) (stage : Stage)
        → SentAt objects moment client.session.watchdog.watches
        (record { client = id; thread = thread }) want stage (client.replies thread)
        → SentAt after later client.session.watchdog.watches
        (record { client = id; thread = thread }) want stage (client.replies thread)
    sent-on thread want (Asked asking) sent = record {
      lease = sent.lease;
      queue = sent.queue;
      op = sent.op;
      past = omega (arith, sent.past, le);
      under = sent.under;
      noted = sent.noted;
      lasts = λ given noted key about.
          lasting key (asking.at + watchdog_lease)
          (replied-on thread key (client.replies thread) refl given
          (key-owner (record { client = id; thread = thread }) want key about))
          (omega (arith, sent.past, le)) (sent.lasts given noted key about);
    }
    sent-on thread want (Fresh turn) none = none
    sent-on thread want Joining none = none
    sent-on thread want (Ready turn) none = none
    sent-on thread want (Refused refusal) none = none
    sent-on thread want (Asleep refusal) none = none
    sent-on thread want (Leaving turn) none = none

    thread-on : (thread : ℕ) (found : Option Waiter)
        → SentWith objects moment client.session.watchdog.watches
        (record { client = id; thread = thread }) found (client.replies thread)
        → SentWith after later client.session.watchdog.watches
        (record { client = id; thread = thread }) found (client.replies thread)
    thread-on thread None none = none
    thread-on thread (Some waiter) sent = sent-on thread waiter.want waiter.stage sent

    -- where the holds last that are watched, or whose threads have a reply
    pub watched-on : AreWatched n after later id client
    watched-on = record {
      own = were.own;
      lease = were.lease;
      grants = were.grants;
      watches = λ key.
          watch-on key (client.session.watchdog.watches key) refl (were.watches key);
      renewals = λ key.
          renewal-on key (client.session.watchdog.renewals key) (client.renewed key)
          (were.renewals key);
      threads = λ thread.
          thread-on thread (client.session.waiters thread) (were.threads thread);
    }

-- Clients.

-- clients with one id are one
pub one-client : (c d : ℕ) → IsClient c → IsClient d → client_id c ≡ client_id d → c ≡ d
one-client c d first second same =
    let few : c < 2 ^ 128 = omega (arith, first.1) in
    let also : d < 2 ^ 128 = omega (arith, second.1) in
    sym (from_be_bytes-to_be_bytes_16 c few) ∙ ap (from_be_bytes w128) same
    ∙ from_be_bytes-to_be_bytes_16 d also

-- who is cut off watches nothing, and waits for no reply
pub watched-cut : (n : ℕ) (objects : Objects) (moment : ℕ) (id : List ℕ) (client : Client)
    → AreWatched n objects moment id client → AreWatched n objects moment id (cut_client client)
watched-cut n objects moment id client were = record {
  own = were.own;
  lease = were.lease;
  grants = were.grants;
  watches = λ key. tt;
  renewals = λ key. refl;
  threads = λ thread. refl;
}

-- A call that a thread has sent.

pub record IsAsking (client : Client) (thread : ℕ) (asking : Asking) : Type 0 where
  pub waiter : Waiter
  pub was : client.session.waiters thread ≡ Some waiter
  pub stage : waiter.stage ≡ Asked asking
  pub none : client.replies thread ≡ None

pub asking-is : (client : Client) (thread : ℕ) (asking : Asking)
    → asked_of client thread ≡ Some asking → IsAsking client thread asking
asking-is client thread asking =
    by (client.session.waiters thread) (client.replies thread) refl refl
  where
    of : (waiter : Waiter) (stage : Stage) (reply : Option Reply)
        → client.session.waiters thread ≡ Some waiter → waiter.stage ≡ stage
        → client.replies thread ≡ reply → asked_at stage reply ≡ Some asking
        → IsAsking client thread asking
    of waiter (Asked other) None was stage none e = record {
      waiter = waiter;
      was = was;
      stage = stage ∙ ap Asked (same_Some other asking e);
      none = none;
    }
    of waiter _ reply was stage none e = absurd (none-some asking e)

    by : (found : Option Waiter) (reply : Option Reply)
        → client.session.waiters thread ≡ found → client.replies thread ≡ reply
        → asked_by found reply ≡ Some asking → IsAsking client thread asking
    by None reply was none e = absurd (none-some asking e)
    by (Some waiter) reply was none e = of waiter waiter.stage reply was refl none e

module _ (objects : Objects) (moment : ℕ) (watches : WatchKey → Option Watch)
    (owner : ThreadOfClient) (want : Want) (asking : Asking) (reply : Option Reply)
    (sent : IsSent objects moment watches owner want asking reply) where
  abbrev made : Want → Op
  made w = op_of w owner sent.lease sent.queue

  abbrev left : Want
  left = leaving_want want (leaving_function want.function)

  -- what it is about, its request is about
  pub sent-key : (key : WatchKey) → op_key asking.op ≡ Some key → key_for owner want ≡ Some key
  sent-key key about = by sent.op
    where
      by : (asking.op ≡ made want) ⊎ (asking.op ≡ made left) → key_for owner want ≡ Some key
      by (inl e) = want-key want owner sent.lease sent.queue key (sym (ap op_key e) ∙ about)
      by (inr e) = leaving-key want owner sent.lease sent.queue key (sym (ap op_key e) ∙ about)

  -- it gives its lease, which is the watchdog's where the thread has noted that
  pub sent-lease : (key : WatchKey) → op_key asking.op ≡ Some key → asking.watched ≡ true
      → lease_given asking.op ≡ watchdog_lease
  sent-lease key about noted = by sent.op ∙ sent.under noted
    where
      by : (asking.op ≡ made want) ⊎ (asking.op ≡ made left)
          → lease_given asking.op ≡ sent.lease
      by (inl e) =
          ap lease_given e
          ∙ want-lease want owner sent.lease sent.queue key (sym (ap op_key e) ∙ about)
      by (inr e) =
          ap lease_given e
          ∙ leaving-lease want owner sent.lease sent.queue key (sym (ap op_key e) ∙ about)

  -- and where it gives a deadline, it is about what its request is about
  pub sent-grant : (key : WatchKey) → gives_deadline (reply_of objects moment asking.op) ≡ true
      → key_for owner want ≡ Some key → op_key asking.op ≡ Some key
  sent-grant key gives about = by sent.op
    where
      gives_by : (op : Op) → asking.op ≡ op → gives_deadline (reply_of objects moment op) ≡ true
      gives_by op e =
          sym (ap (λ o. gives_deadline (reply_of objects moment o)) e) ∙ gives

      by : (asking.op ≡ made want) ⊎ (asking.op ≡ made left) → op_key asking.op ≡ Some key
      by (inl e) =
          ap op_key e
          ∙ grant-key objects moment want owner sent.lease sent.queue key
          (gives_by (made want) e) about
      by (inr e) =
          ap op_key e
          ∙ leaving-grant want owner sent.lease sent.queue key objects moment
          (gives_by (made left) e) about
