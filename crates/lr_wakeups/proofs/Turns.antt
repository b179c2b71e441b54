-- What is told to stand for who sleeps for a fair lock: it comes before its place goes stale.
use Rattle.std.proofs.Common.{◌≡◌, ℕ, ◌+◌, ◌≤◌, true, Some, None, refl, ap, sym, ◌∙◌, subst, arith, if◌then◌else◌}
use Rattle.std.proofs.lemmas.Bool.{and_from}
use Rattle.std.proofs.lemmas.Option.{same_Some}
use Rattle.lr_limits.specs.Limits.{thread_limit}
use Rattle.lr_names.specs.Channel.{ChannelOf, is_fair}
use Rattle.lr_waiting.specs.declared.stand.Stand.{Stand}
use Rattle.lr_waiting.specs.declared.stand.Stand.TheVariants as stands
use Rattle.lr_waiting.specs.declared.waiter.Refusal.{Refusal}
use Rattle.lr_waiting.specs.declared.waiter.Stage.{Stage}
use Rattle.lr_waiting.specs.declared.waiter.Stage.TheVariants.{Asleep}
use Rattle.lr_waiting.specs.declared.waiter.Waiter.{Waiter}
use Rattle.lr_model.specs.Board.{same_channel, Connection}
use Rattle.lr_model.specs.Fair.{place_wait}
use Rattle.lr_model.proofs.SameChannel.{same_self}
use Rattle.lr_waiting.specs.Client.{Client, waiter_in}
use Rattle.lr_waiting.specs.Session.{channel_in}
use Rattle.lr_waiting.specs.Stand.{due_at, due_with, due_of, stand_of_one, stand_by, stand_at, stand_with}
use Rattle.lr_wakeups.specs.Facts.{Facts}
use Rattle.lr_wakeups.specs.Joining.{FitsStage}
use Rattle.lr_wakeups.specs.Queued.{HasPlace, QueuedWith, StandsBefore, SleepsInQueue, NoLostTurn}
use Rattle.lr_wakeups.specs.Reached.{Present}
use Rattle.lr_wakeups.specs.Standing.{is_blocked_at, StandsWithin, ByTimer}
use Rattle.lr_wakeups.proofs.FairChannels.{fair_wakes_one}
use Rattle.lr_wakeups.proofs.Joining.{placed_was}
use Rattle.lr_wakeups.proofs.Stands.{told_to_stand}

never : {A : Type 0} (x : A) → None ≡ Some x → ⊥
never x e = absurd (cc e)

-- what stands by the moment at which a thread asks again comes before its place goes stale
stands_before : (moment stale : ℕ) → moment + place_wait ≤ stale → (stand : Stand)
    → StandsWithin moment stand → StandsBefore stale stand
stands_before moment stale lasts (stands.Timer timer) few = omega (arith, few, lasts)
stands_before moment stale lasts stands.Nobody none = none
stands_before moment stale lasts stands.Message few = tt
stands_before moment stale lasts stands.Permit few = tt
stands_before moment stale lasts stands.Awake few = tt
stands_before moment stale lasts stands.Held few = tt
stands_before moment stale lasts stands.Broadcast few = tt

-- a thread that sleeps for a fair lock
module _ (n : ℕ) (present : Present) (client : Client) (connection : Connection)
    (facts : Facts n present client connection) (thread : ℕ) (within : thread ≤ thread_limit)
    (waiter : Waiter) (was : waiter_in client thread ≡ Some waiter) (refusal : Refusal)
    (asleep : waiter.stage ≡ Asleep refusal)
    (fair : is_fair (channel_in client.session thread waiter).kind ≡ true) where
  -- its channel
  abbrev own : ChannelOf
  own = channel_in client.session thread waiter

  queued : QueuedWith present client.session.client client.session.latches.entries
      connection.outbox thread (client.replies thread) (Some waiter)
  queued =
      subst
      (QueuedWith present client.session.client client.session.latches.entries
      connection.outbox thread (client.replies thread))
      was (facts.queued thread within)

  inside : waiter.registered ≡ true
  inside =
      subst (λ s. FitsStage s waiter.registered) asleep
      (placed_was thread None client client within facts.placed waiter was).fits

  blocked : is_blocked_at waiter.stage (client.replies thread) waiter.want.function ≡ true
  blocked = ap (λ s. is_blocked_at s (client.replies thread) waiter.want.function) asleep

  placed : HasPlace (present.left own) (due_at waiter.stage (client.replies thread))
  placed = queued.place inside fair blocked

  due : due_of own client thread ≡ Some placed.moment
  due =
      ap (due_with own client thread) was
      ∙ ap (λ b. if b then due_at waiter.stage (client.replies thread) else None)
      (and_from waiter.registered (same_channel own own) inside (same_self own))
      ∙ placed.asks

  sleeps_in_queue : (stand : Stand) → stand_of_one own connection.outbox client ≡ stand
      → SleepsInQueue present client connection thread waiter stand
  sleeps_in_queue stand is = record {
    place = placed;
    told = queued.told inside fair blocked;
    stands = stands_before placed.moment placed.stale placed.lasts stand
        (subst (StandsWithin placed.moment) is
        (told_to_stand placed.moment own client connection
        (ByTimer thread placed.moment within due (omega arith))));
  }

pub no_lost_turn : (n : ℕ) (present : Present) (client : Client) (connection : Connection)
    → Facts n present client connection → NoLostTurn present client connection
no_lost_turn n present client connection facts state now thread waiter stand within was fair told =
    by_stage waiter.stage refl
    (ap (stand_with state now connection.outbox client thread) (sym was) ∙ told)
  where
    by_stage : (stage : Stage) → waiter.stage ≡ stage
        → stand_at state now connection.outbox client thread waiter stage ≡ Some stand
        → SleepsInQueue present client connection thread waiter stand
    by_stage (Asleep refusal) e f =
        sleeps_in_queue n present client connection facts thread within waiter was refusal e fair
        stand
        (ap
        (λ w. stand_by w state now connection.outbox client thread waiter refusal)
        (sym (fair_wakes_one (channel_in client.session thread waiter).kind fair))
        ∙ same_Some _ stand f)
    by_stage _ e f = absurd (never stand f)
