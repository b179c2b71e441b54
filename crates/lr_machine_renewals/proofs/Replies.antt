-- The server runs the call of a thread, a renewal or an operator's call, and the reply waits then:
-- what is so of the watchdogs of all clients stays so.
use Rattle.std.proofs.Common.{◌≡◌, ℕ, suc, ◌+◌, ◌≤◌, List, true, Option, Some, None, is_some, if◌then◌else◌, refl, sym, ap, ◌∙◌, subst, arith, ◌⊎◌, inl, inr}
use Rattle.std.proofs.lemmas.Bool.{false≢true, eq-eqb}
use Rattle.std.proofs.lemmas.Option.{none-some, same_Some}
use Rattle.lr_limits.specs.Limits.{watchdog_lease}
use Rattle.lr_names.specs.Owner.{ThreadOfClient}
use Rattle.lr_objects.specs.declared.op.Op.{Op}
use Rattle.lr_objects.specs.declared.reply.Reply.{Reply}
use Rattle.lr_objects.specs.declared.reply.Reply.TheVariants.{Renewed}
use Rattle.lr_model.specs.Answer.{Objects, reply_of, objects_after}
use Rattle.lr_model.specs.Table.{put}
use Rattle.lr_model.specs.Tenure.{lease_given}
use Rattle.lr_waiting.specs.declared.waiter.Asking.{Asking}
use Rattle.lr_waiting.specs.declared.waiter.Stage.{Stage}
use Rattle.lr_waiting.specs.declared.waiter.Waiter.{Waiter}
use Rattle.lr_waiting.specs.declared.watch.Renewal.{Renewal}
use Rattle.lr_waiting.specs.declared.watch.Watch.{Watch}
use Rattle.lr_waiting.specs.declared.watch.WatchKey.{WatchKey}
use Rattle.lr_waiting.specs.Client.{Client, with_reply, with_renewed, renewing_at, renewing_of}
use Rattle.lr_waiting.specs.Peak.{gives_deadline}
use Rattle.lr_waiting.specs.Watchdog.{same_watch, renewal_op}
use Rattle.lr_machine.specs.Clients.{client_id}
use Rattle.lr_machine.specs.Renewals.{held_until}
use Rattle.lr_machine.specs.Within.{IsClient}
use Rattle.lr_machine.specs.World.{force_of}
use Rattle.lr_machine_renewals.specs.Kept.{HoldsAreApart, IsGiven, op_key}
use Rattle.lr_machine_renewals.specs.WatchFacts.{WatchedWith, IsRenewal, RenewedWith, IsSent, SentAt, SentWith, AreWatched}
use Rattle.lr_machine_renewals.proofs.CallUntil.{keeps-holds, gives-deadlines}
use Rattle.lr_machine_renewals.proofs.KeyLaws.{renewal-key, renewal-lease}
use Rattle.lr_machine_renewals.proofs.Watched.{Sent, watched-thread}
use Rattle.lr_machine_renewals.proofs.WatchChanges.{key-owner, put-here, put-apart, watched-hold}
use Rattle.lr_machine_renewals.proofs.CallSteps.{LastsOn, watched-on, one-client, IsAsking, sent-key, sent-lease, sent-grant}

module _ (objects : Objects) (moment : ℕ)
    (apart : HoldsAreApart objects) (n : ℕ) (clients : ℕ → Client)
    (were : (d : ℕ) → IsClient d → AreWatched n objects moment (client_id d) (clients d)) where
  abbrev after : Op → Objects
  after op = objects_after objects moment op

  -- A hold lasts on, where a call gives it no deadline by another lease than the watchdog's.
  on-call : (op : Op) (key : WatchKey)
      → (op_key op ≡ Some key → lease_given op ≡ watchdog_lease)
      → LastsOn objects (after op) moment moment key
  on-call op key lease deadline held =
      by (keeps-holds objects moment moment op key deadline apart (omega arith) held)
    where
      by : (held_until objects key moment ≡ Some deadline) ⊎ IsGiven objects moment op key deadline
          → (held_until objects key moment ≡ Some deadline) ⊎ (moment + watchdog_lease ≤ deadline)
      by (inl same) = inl same
      by (inr given) = inr (omega (arith, given.lasts, lease given.about))

  -- and all do, where a call gives no deadline by another lease at all
  pub call-kept : (op : Op)
      → ((key : WatchKey) → op_key op ≡ Some key → lease_given op ≡ watchdog_lease) → (d : ℕ)
      → IsClient d → AreWatched n (after op) moment (client_id d) (clients d)
  call-kept op lease d within =
      watched-on objects (after op) moment moment n (client_id d) (clients d) (omega arith)
      (were d within) (λ key watched. on-call op key (lease key))
      (λ thread reply key e own. on-call op key (lease key))

  -- An operator's call gives none.
  pub force-kept : (name : List ℕ) (d : ℕ) → IsClient d
      → AreWatched n (after (force_of name)) moment (client_id d) (clients d)
  force-kept name = call-kept (force_of name) (λ key about. absurd (none-some key about))

  -- The call of a thread.

  module _ (c t : ℕ) (asking : Asking) (caller : IsClient c) (asked : IsAsking (clients c) t asking)
    where
      abbrev own : ThreadOfClient
      own = record { client = client_id c; thread = t }

      abbrev watches : ℕ → WatchKey → Option Watch
      watches d = (clients d).session.watchdog.watches

      sent : (objects : Objects) → AreWatched n objects moment (client_id c) (clients c)
          → IsSent objects moment (watches c) own asked.waiter.want asking None
      sent objects now =
          subst
          (λ (r : Option Reply). IsSent objects moment (watches c) own asked.waiter.want asking r)
          asked.none
          (subst
          (λ (s : Stage). SentAt objects moment (watches c) own asked.waiter.want s
          ((clients c).replies t))
          asked.stage
          (subst
          (λ (w : Option Waiter). SentWith objects moment (watches c) own w
          ((clients c).replies t))
          asked.was (now.threads t)))

      -- whose hold it is about
      about-own : (key : WatchKey) → op_key asking.op ≡ Some key → key.owner ≡ own
      about-own key about =
          key-owner own asked.waiter.want key
          (sent-key objects moment (watches c) own asked.waiter.want asking None
          (sent objects (were c caller)) key about)

      watch-own : (id : List ℕ) (grants : ℕ) (key : WatchKey) (watch : Option Watch)
          → WatchedWith objects moment id grants key watch → is_some watch ≡ true
          → key.owner.client ≡ id
      watch-own id grants key None was watched = absurd (false≢true watched)
      watch-own id grants key (Some watch) was watched = was.own

      -- where that is watched, the thread has noted the watchdog's lease
      on-watched : (d : ℕ) → IsClient d → (key : WatchKey) → is_some (watches d key) ≡ true
          → LastsOn objects (after asking.op) moment moment key
      on-watched d within key watched =
          on-call asking.op key
          (λ about.
          let now = sent objects (were c caller) in
          let one : d ≡ c =
          one-client d c within caller
          (sym
          (watch-own (client_id d) (clients d).session.watchdog.generation key (watches d key)
          ((were d within).watches key) watched)
          ∙ ap (λ (o : ThreadOfClient). o.client) (about-own key about)) in
          sent-lease objects moment (watches c) own asked.waiter.want asking None now key about
          (now.noted key
          (sent-key objects moment (watches c) own asked.waiter.want asking None now key about)
          (subst (λ k. is_some (watches k key) ≡ true) one watched)))

      -- and who has a reply hasn't sent it
      on-replied : (d : ℕ) → IsClient d → (thread : ℕ) (reply : Reply) (key : WatchKey)
          → (clients d).replies thread ≡ Some reply
          → key.owner ≡ record { client = client_id d; thread = thread }
          → LastsOn objects (after asking.op) moment moment key
      on-replied d within thread reply key e theirs =
          on-call asking.op key
          (λ about.
          let same = sym theirs ∙ about-own key about in
          let one : d ≡ c =
          one-client d c within caller (ap (λ (o : ThreadOfClient). o.client) same) in
          let turn : thread ≡ t = ap (λ (o : ThreadOfClient). o.thread) same in
          absurd
          (none-some reply
          (sym asked.none ∙ (λ i. (clients (sym one i)).replies (sym turn i)) ∙ e)))

      pub asked-kept : (d : ℕ) → IsClient d
          → AreWatched n (after asking.op) moment (client_id d) (clients d)
      asked-kept d within =
          watched-on objects (after asking.op) moment moment n (client_id d) (clients d)
          (omega arith) (were d within) (on-watched d within) (on-replied d within)

      answered : IsSent (after asking.op) moment (watches c) own asked.waiter.want asking None
          → IsSent (after asking.op) moment (watches c) own asked.waiter.want asking
          (Some (reply_of objects moment asking.op))
      answered now = record {
        lease = now.lease;
        queue = now.queue;
        op = now.op;
        past = now.past;
        under = now.under;
        noted = now.noted;
        lasts = λ given noted key about deadline held.
            let called =
            sent-grant objects moment (watches c) own asked.waiter.want asking None
            (sent objects (were c caller)) key given about in
            let lease =
            sent-lease objects moment (watches c) own asked.waiter.want asking None
            (sent objects (were c caller)) key called noted in
            let until =
            gives-deadlines objects moment moment asking.op key deadline apart called given held in
            omega (arith, until, lease, now.past);
      }

      -- its reply waits
      pub asked-answered : AreWatched n (after asking.op) moment (client_id c)
          (with_reply t (Some (reply_of objects moment asking.op)) (clients c))
      asked-answered =
          watched-thread n (after asking.op) moment (client_id c) (clients c) kept t
          (with_reply t reply (clients c)) refl refl refl
          (λ s e. (refl, ap (λ b. if b then reply else (clients c).replies s) e))
          (subst
          (λ (r : Option Reply). Sent n (after asking.op) moment (client_id c) (clients c) kept t
          ((clients c).session.waiters t) r)
          (sym (ap (λ b. if b then reply else (clients c).replies t) (eq-eqb t t refl)))
          (subst
          (λ (w : Option Waiter). Sent n (after asking.op) moment (client_id c) (clients c) kept t w
          reply)
          (sym asked.was)
          (subst
          (λ (s : Stage). SentAt (after asking.op) moment (watches c) own asked.waiter.want s reply)
          (sym asked.stage) (answered (sent (after asking.op) kept)))))
        where
          kept : AreWatched n (after asking.op) moment (client_id c) (clients c)
          kept = asked-kept c caller

          reply : Option Reply
          reply = Some (reply_of objects moment asking.op)

  -- A renewal.

  module _ (c : ℕ) (key : WatchKey) (renewal : Renewal) (caller : IsClient c)
      (asked : renewing_of (clients c) key ≡ Some renewal) where
    abbrev call : Op
    call = renewal_op key (clients c).session.watchdog.lease

    has-lease : lease_given call ≡ watchdog_lease
    has-lease = renewal-lease key (clients c).session.watchdog.lease ∙ (were c caller).lease

    pub renewal-kept : (d : ℕ) → IsClient d
        → AreWatched n (after call) moment (client_id d) (clients d)
    renewal-kept = call-kept call (λ other about. has-lease)

    abbrev Waits : Option Renewal → Option Reply → Type 0
    Waits found reply =
        RenewedWith (after call) moment (clients c).session.watchdog.generation key
        ((clients c).session.watchdog.watches key) found reply

    -- it was asked for
    was-asked : (clients c).session.watchdog.renewals key ≡ Some renewal
    was-asked =
        by ((clients c).session.watchdog.renewals key) ((clients c).renewed key) asked
      where
        by : (found : Option Renewal) (reply : Option Reply)
            → renewing_at found reply ≡ Some renewal → found ≡ Some renewal
        by (Some other) None e = e
        by (Some other) (Some reply) e = absurd (none-some renewal e)
        by None reply e = absurd (none-some renewal e)

    -- its reply waits
    pub renewal-answered : AreWatched (suc n) (after call) moment (client_id c)
        (with_renewed key (Some (reply_of objects moment call)) (clients c))
    renewal-answered =
        watched-hold n (after call) moment (client_id c) (clients c) kept key
        (clients c).session.watchdog (put same_watch (clients c).renewed key reply) refl
        (omega arith) (omega (arith, kept.grants))
        (λ other other_key. (refl, refl, put-apart (clients c).renewed key reply other other_key))
        (kept.watches key)
        (subst
        (λ (r : Option Reply). Waits ((clients c).session.watchdog.renewals key) r)
        (sym (put-here (clients c).renewed key reply))
        (subst (λ (r : Option Renewal). Waits r reply) (sym was-asked)
        (record {
          past = made.past;
          grant = made.grant;
          lasts = λ renewed current deadline held.
              let is = same_Some (reply_of objects moment call) Renewed renewed in
              let until =
              gives-deadlines objects moment moment call key deadline apart
              (renewal-key key (clients c).session.watchdog.lease) (ap gives_deadline is) held in
              omega (arith, until, has-lease, made.past);
        })))
        kept.threads
      where
        kept : AreWatched n (after call) moment (client_id c) (clients c)
        kept = renewal-kept c caller

        reply : Option Reply
        reply = Some (reply_of objects moment call)

        made : IsRenewal (after call) moment (clients c).session.watchdog.generation key
            ((clients c).session.watchdog.watches key) renewal ((clients c).renewed key)
        made =
            subst (λ (r : Option Renewal). Waits r ((clients c).renewed key)) was-asked
            (kept.renewals key)
