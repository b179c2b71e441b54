-- A change of one thread of a client: every other thread stays. What is so of a thread at a channel
-- is told by its request and by the reply that waits for it.
use Rattle.std.proofs.Common.{◌≡◌, ℕ, ◌==◌, List, Option, Some, None, refl, ap, sym, ◌∙◌, subst, ◌⊎◌, inl, inr}
use Rattle.std.proofs.lemmas.Bool.{cases_eq}
use Rattle.lr_names.specs.Channel.{ChannelOf}
use Rattle.lr_objects.specs.declared.reply.Reply.{Reply}
use Rattle.lr_waiting.specs.declared.waiter.Waiter.{Waiter}
use Rattle.lr_model.specs.Table.{put}
use Rattle.lr_waiting.specs.Session.{Session, with_waiter}
use Rattle.lr_waiting.specs.Client.{Client, new_client, waiter_in}
use Rattle.lr_waiting.specs.Stand.{awake_with, due_with}
use Rattle.lr_wakeups.specs.Registered.{registered_with}
use Rattle.lr_wakeups.specs.Standing.{blocked_with}
use Rattle.lr_wakeups.proofs.Tables.{put_here, put_there}

-- afterwards a thread has this request or none, and this reply waits for it or none
pub record ChangesThread (thread : ℕ) (found : Option Waiter) (reply : Option Reply)
    (before after : Client) : Type 0 where
  pub id : after.session.client ≡ before.session.client
  pub waiter : waiter_in after thread ≡ found
  pub answer : after.replies thread ≡ reply
  pub waiters : (t : ℕ) → (t ≡ thread → ⊥) → waiter_in after t ≡ waiter_in before t
  pub answers : (t : ℕ) → (t ≡ thread → ⊥) → after.replies t ≡ before.replies t

-- another request of a thread, and the same reply
pub changes_waiter : (thread : ℕ) (found : Option Waiter) (before : Client) (session : Session)
    → session.client ≡ before.session.client → session.waiters ≡ before.session.waiters
    → ChangesThread thread found (before.replies thread) before
    (record before { session = with_waiter thread found session })
changes_waiter thread found before session id same = record {
  id = id;
  waiter = put_here session.waiters thread found;
  answer = refl;
  waiters = λ t apart.
      put_there session.waiters thread found t apart ∙ ap (λ (w : ℕ → Option Waiter). w t) same;
  answers = λ t apart. refl;
}

-- another request, and another reply
pub changes_both : (thread : ℕ) (found : Option Waiter) (reply : Option Reply) (before : Client)
    (session : Session)
    → session.client ≡ before.session.client → session.waiters ≡ before.session.waiters
    → ChangesThread thread found reply before
    (record before {
      session = with_waiter thread found session;
      replies = put ◌==◌ before.replies thread reply;
    })
changes_both thread found reply before session id same = record {
  id = id;
  waiter = put_here session.waiters thread found;
  answer = put_here before.replies thread reply;
  waiters = λ t apart.
      put_there session.waiters thread found t apart ∙ ap (λ (w : ℕ → Option Waiter). w t) same;
  answers = λ t apart. put_there before.replies thread reply t apart;
}

-- a client of which one reply is known
abbrev pub alone : List ℕ → Option Reply → Client
alone id reply = record (new_client id 0) { replies = λ thread. reply }

-- a view of a thread that depends on nothing else
abbrev pub IsLocal : {X : Type 0} → (Client → ℕ → Option Waiter → X) → Type 0
IsLocal view =
    (client : Client) (thread : ℕ) (found : Option Waiter)
    → view client thread found
    ≡ view (alone client.session.client (client.replies thread)) thread found

pub registered_local : (channel : ChannelOf) → IsLocal (registered_with channel)
registered_local channel client thread None = refl
registered_local channel client thread (Some waiter) = refl

pub blocked_local : (channel : ChannelOf) → IsLocal (blocked_with channel)
blocked_local channel client thread None = refl
blocked_local channel client thread (Some waiter) = refl

pub awake_local : (channel : ChannelOf) → IsLocal (awake_with channel)
awake_local channel client thread None = refl
awake_local channel client thread (Some waiter) = refl

pub due_local : (channel : ChannelOf) → IsLocal (due_with channel)
due_local channel client thread None = refl
due_local channel client thread (Some waiter) = refl

-- clients that agree on a thread
pub seen_alike : {X : Type 0} (view : Client → ℕ → Option Waiter → X) → IsLocal view
    → (before after : Client) (thread : ℕ) (found : Option Waiter)
    → after.session.client ≡ before.session.client
    → after.replies thread ≡ before.replies thread → waiter_in after thread ≡ found
    → view after thread (waiter_in after thread) ≡ view before thread found
seen_alike view local before after thread found id reply waiter =
    local after thread (waiter_in after thread)
    ∙ (λ i. view (alone (id i) (reply i)) thread (waiter i))
    ∙ sym (local before thread found)

module _ (thread : ℕ) (found : Option Waiter) (reply : Option Reply) (before after : Client)
    (changes : ChangesThread thread found reply before after) where
  pub seen_there : {X : Type 0} (view : Client → ℕ → Option Waiter → X) → IsLocal view
      → (t : ℕ) → (t ≡ thread → ⊥)
      → view after t (waiter_in after t) ≡ view before t (waiter_in before t)
  seen_there view local t apart =
      seen_alike view local before after t (waiter_in before t) changes.id
      (changes.answers t apart) (changes.waiters t apart)

  pub seen_here : {X : Type 0} (view : Client → ℕ → Option Waiter → X) → IsLocal view
      → view after thread (waiter_in after thread)
      ≡ view (alone before.session.client reply) thread found
  seen_here view local =
      seen_alike view local (alone before.session.client reply) after thread found changes.id
      changes.answer changes.waiter

-- the thread itself, or another
pub by_thread : (P : ℕ → Type 0) (thread : ℕ) → P thread
    → ((t : ℕ) → (t ≡ thread → ⊥) → P t) → (t : ℕ) → P t
by_thread P thread here there t = by (cases_eq thread t)
  where
    by : (thread ≡ t) ⊎ (thread ≡ t → ⊥) → P t
    by (inl same) = subst P same here
    by (inr apart) = there t (λ e. apart (sym e))
