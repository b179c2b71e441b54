-- What each step of a function comes to for the lock that the keys have.
use Rattle.std.proofs.Common.{◌≡◌, ◌-◌, ℕ, Bool, true, false, not, ◌&&◌, List, Option, Some, None, is_some, is_none, option_map, if◌then◌else◌, refl, sym, ap, ◌∙◌, subst, arith}
use Rattle.std.proofs.lemmas.Bool.{cond-true, cond-false, false≢true, true≢false}
use Rattle.lr_names.specs.Owner.{ThreadOfClient, same_owner}
use Rattle.lr_names.specs.declared.post.Post.{Post}
use Rattle.lr_keys.specs.KeySpace.{ChangesOnly, KeyEntry, Keys, entry_at}
use Rattle.lr_keys.proofs.TableLaws.{bytes_eq-other}
use Rattle.lr_objects.specs.declared.reply.Reply.{Reply}
use Rattle.lr_objects.specs.declared.reply.Reply.TheVariants.{Left, Unknown}
use Rattle.lr_model.specs.declared.hold.Hold.{Hold}
use Rattle.lr_model.specs.Fair.{FairLock, FairPlace, first_post, is_first, leave_with, live_places, place_of, post_at_leave, take_fair, wait_for, with_queue, without_place}
use Rattle.lr_model.specs.Hold.{take_hold, give_back_hold, renew_hold}
use Rattle.lr_model.specs.Outcome.{Outcome}
use Rattle.lr_hold.specs.Holds.{IsHold}
use Rattle.lr_hold.specs.Step.{IsHeld, IsHoldStep, hold_count, is_freed}
use Rattle.lr_hold.proofs.PostLaws.{sends-give_back_hold, sends-renew_hold, sends-take_hold}
use Rattle.lr_fair.specs.Queue.{IsQueueAt}
use Rattle.lr_fair.specs.Step.{AreApart, ChangesOnlyTwo, IsFairStep, IsLockAt}
use Rattle.lr_fair.proofs.ChangeLemmas.{queue-same}
use Rattle.lr_fair.proofs.QueueLaws.{stale_in}

-- a silent choice
silent-if : (b : Bool) → ◌≡◌ {A = Option Post} (if b then None else None) None
silent-if true = refl
silent-if false = refl

module _ (hold queue stales : List ℕ) (apart : AreApart hold queue stales) where
  -- a change of the queue leaves the hold, and a change of the hold the queue
  pub hold-stays : (keys new : Keys) → ChangesOnlyTwo queue stales keys new
      → entry_at new hold ≡ entry_at keys hold
  hold-stays keys new others =
      others hold (bytes_eq-other queue hold (λ e. apart.hold_queue (sym e)))
      (bytes_eq-other stales hold (λ e. apart.hold_stales (sym e)))

  pub queue-stays : (keys new : Keys) → ChangesOnly hold keys new → (places : List FairPlace)
      → IsQueueAt (entry_at keys queue) (entry_at keys stales) places
      → IsQueueAt (entry_at new queue) (entry_at new stales) places
  queue-stays keys new others places at =
      queue-same (entry_at keys queue) (entry_at keys stales) (entry_at new queue)
      (entry_at new stales) places (others queue (bytes_eq-other hold queue apart.hold_queue))
      (others stales (bytes_eq-other hold stales apart.hold_stales)) at

  -- the lock with another queue
  pub lock-with : (keys new : Keys) (lock : FairLock) → IsLockAt keys hold queue stales lock
      → ChangesOnlyTwo queue stales keys new → new.moment ≡ keys.moment → (places : List FairPlace)
      → IsQueueAt (entry_at new queue) (entry_at new stales) places
      → IsLockAt new hold queue stales (record { held = lock.held; queue = places })
  lock-with keys new lock at others now places there = record {
    held =
        subst (λ m. IsHeld m (entry_at new hold) lock.held) (sym now)
        (subst (λ e. IsHeld keys.moment e lock.held) (sym (hold-stays keys new others)) at.held);
    places = there;
  }

  -- without the places that are stale
  pub swept : (middle left : Keys) (lock : FairLock) → IsLockAt middle hold queue stales lock
      → ((places : List FairPlace)
      → IsQueueAt (entry_at middle queue) (entry_at middle stales) places
      → IsQueueAt (entry_at left queue) (entry_at left stales) (live_places middle.moment places))
      → ChangesOnlyTwo queue stales middle left → left.moment ≡ middle.moment
      → IsLockAt left hold queue stales
      (record { held = lock.held; queue = live_places middle.moment lock.queue })
  swept middle left lock at removes others now =
      lock-with middle left lock at others now (live_places middle.moment lock.queue)
      (removes lock.queue at.places)

  -- a step on the hold
  pub hold-step : (keys new : Keys) → ChangesOnly hold keys new → (places : List FairPlace)
      → IsQueueAt (entry_at keys queue) (entry_at keys stales) places → (reply : Reply)
      (post : Option Post) (outcome : Outcome (Option Hold)) → IsHoldStep new hold reply outcome
      → post ≡ outcome.post
      → IsFairStep new hold queue stales (reply, post) (with_queue places outcome)
  hold-step keys new others places at reply post outcome step told = record {
    reply = step.answer;
    post = told;
    lock = record { held = step.held; places = queue-stays keys new others places at };
  }

-- taking tells nobody
pub take-silent : (moment : ℕ) (owner : ThreadOfClient) (lease : ℕ) (held : Option Hold)
    → None ≡ (take_hold moment owner lease held).post
take-silent moment owner lease held =
    sym (sends-take_hold None moment owner lease held
    ∙ silent-if (is_freed (take_hold moment owner lease held).reply))

-- and so does renewing
pub renew-silent : (moment : ℕ) (owner : ThreadOfClient) (lease : ℕ) (held : Option Hold)
    → None ≡ (renew_hold moment owner lease held).post
renew-silent moment owner lease held =
    sym (sends-renew_hold None moment owner lease held
    ∙ silent-if (is_freed (renew_hold moment owner lease held).reply))

-- giving back tells the first where the lock has come free
pub freed-post : (told post : Option Post) (moment : ℕ) (owner : ThreadOfClient) (rest : ℕ)
    (held : Option Hold) (reply : Reply)
    → reply ≡ (give_back_hold told moment owner rest held).reply
    → post ≡ (if is_freed reply then told else None)
    → post ≡ (give_back_hold told moment owner rest held).post
freed-post told post moment owner rest held reply same is =
    is ∙ ap (λ r. if is_freed r then told else None) same
    ∙ sym (sends-give_back_hold told moment owner rest held)

-- ---- who holds it

pub held-none : (moment : ℕ) (entry : Option KeyEntry) (held : Option Hold)
    → IsHeld moment entry held → is_some entry ≡ false → held ≡ None
held-none moment entry None at absent = refl
held-none moment entry (Some hold) at absent =
    absurd (true≢false (ap is_some (sym at.stands) ∙ absent))

pub none-held : (moment : ℕ) (entry : Option KeyEntry) (held : Option Hold)
    → IsHeld moment entry held → is_none held ≡ is_none entry
none-held moment entry None at = ap is_none (sym at.stands)
none-held moment entry (Some hold) at = ap is_none (sym at.stands)

pub held-some : (moment : ℕ) (entry : Option KeyEntry) (held : Option Hold)
    → IsHeld moment entry held → is_some entry ≡ true → (hold : Hold) × (held ≡ Some hold)
held-some moment entry None at there =
    absurd (false≢true (ap is_some (sym at.stands) ∙ there))
held-some moment entry (Some hold) at there = (hold, refl)

-- another
pub held-other : (owner : ThreadOfClient) (hold : Hold) → IsHold hold
    → hold_count owner (Some hold) ≡ 0 → same_owner hold.owner owner ≡ false
held-other owner hold is none = by (same_owner hold.owner owner) none
  where
    by : (b : Bool) → (if b then hold.count else 0) ≡ 0 → b ≡ false
    by true none = let some = is.some in absurd (omega (arith, some, none))
    by false none = refl

-- the owner
pub held-own : (owner : ThreadOfClient) (hold : Hold) → (count : ℕ)
    → count ≡ hold_count owner (Some hold) → (count ≡ 0 → ⊥) → same_owner hold.owner owner ≡ true
held-own owner hold count is some = by (same_owner hold.owner owner) is
  where
    by : (b : Bool) → count ≡ (if b then hold.count else 0) → b ≡ true
    by true is = refl
    by false is = absurd (some is)

module _ (new : Keys) (hold queue stales : List ℕ) (answer : Reply × Option Post) where
  abbrev IsStep : Outcome FairLock → Type 0
  IsStep outcome = IsFairStep new hold queue stales answer outcome

  -- taking what another holds is waiting
  pub take-other : (moment : ℕ) (owner : ThreadOfClient) (lease : ℕ) (queues : Bool)
      (places : List FairPlace) (held : Hold) → same_owner held.owner owner ≡ false
      → IsStep (wait_for moment owner (held.deadline - moment) queues (Some held) places)
      → IsStep (take_fair moment owner lease queues places (Some held))
  take-other moment owner lease queues places held other step =
      subst IsStep (sym (cond-false (same_owner held.owner owner) _ _ other)) step

  -- and taking once more a step on the hold
  pub take-own : (moment : ℕ) (owner : ThreadOfClient) (lease : ℕ) (queues : Bool)
      (places : List FairPlace) (held : Hold) → same_owner held.owner owner ≡ true
      → IsStep (with_queue places (take_hold moment owner lease (Some held)))
      → IsStep (take_fair moment owner lease queues places (Some held))
  take-own moment owner lease queues places held own step =
      subst IsStep (sym (cond-true (same_owner held.owner owner) _ _ own)) step

-- ---- giving a place up

-- whether there is one, as a look tells it
pub none-told : (stale : Option ℕ) (result : Bool) → is_some stale ≡ not result
    → is_none stale ≡ result
none-told None true told = refl
none-told None false told = absurd (false≢true told)
none-told (Some stale) true told = absurd (true≢false told)
none-told (Some stale) false told = refl

module _ (name : List ℕ) (owner : ThreadOfClient) (hold queue stales : List ℕ) where
  -- there is none
  pub leave-unknown : (keys : Keys) (lock : FairLock) → IsLockAt keys hold queue stales lock
      → is_none (option_map stale_in (place_of owner lock.queue)) ≡ true
      → IsFairStep keys hold queue stales (Unknown, None)
      (leave_with name owner lock.held lock.queue (place_of owner lock.queue))
  leave-unknown keys lock at none = by (place_of owner lock.queue) none
    where
      by : (own : Option FairPlace) → is_none (option_map stale_in own) ≡ true
          → IsFairStep keys hold queue stales (Unknown, None)
          (leave_with name owner lock.held lock.queue own)
      by None none = record { reply = refl; post = refl; lock = at }
      by (Some own) none = absurd (false≢true none)

  -- the message
  leave-post : (held : Option Hold) (places : List FairPlace)
      → (if is_none held && is_first owner places then first_post name (without_place owner places)
      else None)
      ≡ post_at_leave name owner held places
  leave-post None places = refl
  leave-post (Some h) places = refl

  -- it goes
  pub leave-step : (keys new : Keys) (lock : FairLock)
      → is_none (option_map stale_in (place_of owner lock.queue)) ≡ false
      → IsLockAt new hold queue stales
      (record { held = lock.held; queue = without_place owner lock.queue })
      → (post : Option Post) (free : Bool)
      → post ≡ (if free then first_post name (without_place owner lock.queue) else None)
      → free ≡ is_none lock.held && is_first owner lock.queue
      → IsFairStep new hold queue stales (Left, post)
      (leave_with name owner lock.held lock.queue (place_of owner lock.queue))
  leave-step keys new lock some at post free told is = by (place_of owner lock.queue) some
    where
      by : (own : Option FairPlace) → is_none (option_map stale_in own) ≡ false
          → IsFairStep new hold queue stales (Left, post)
          (leave_with name owner lock.held lock.queue own)
      by None some = absurd (true≢false some)
      by (Some own) some = record {
        reply = refl;
        post =
            told
            ∙ ap (λ b. if b then first_post name (without_place owner lock.queue) else None) is
            ∙ leave-post lock.held lock.queue;
        lock = at;
      }
