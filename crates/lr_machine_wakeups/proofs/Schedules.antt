-- Throughout every schedule the facts are so, and no wakeup is lost.
use Rattle.std.proofs.Common.{◌≡◌, ℕ, suc, ◌+◌, ◌<◌, ◌≤◌, ◌^◌, List, [], ◌∷◌, ◌++◌, length, length-append, true, Some, refl, ap, subst, arith}
use Rattle.std.specs.List.{AllByRecursion}
use Rattle.lr_machine.specs.declared.event.Event.{Event}
use Rattle.lr_machine.specs.Sound.{IsInOrder}
use Rattle.lr_limits.specs.Limits.{thread_limit}
use Rattle.lr_machine.specs.Within.{IsClient, IsWithin}
use Rattle.lr_machine.specs.World.{World, state_of, connection_of, first_world, next, world_after}
use Rattle.lr_names.specs.Channel.{is_fair}
use Rattle.lr_waiting.specs.declared.stand.Stand.{Stand}
use Rattle.lr_waiting.specs.declared.waiter.Waiter.{Waiter}
use Rattle.lr_waiting.specs.Client.{waiter_in}
use Rattle.lr_waiting.specs.Session.{owner_in, channel_in}
use Rattle.lr_waiting.specs.Stand.{stand_of}
use Rattle.lr_wakeups.specs.Queued.{SleepsInQueue}
use Rattle.lr_wakeups.proofs.FairChannels.{names_owner}
use Rattle.lr_wakeups.proofs.Stands.{no_lost_wakeup, no_lost_broadcast}
use Rattle.lr_wakeups.proofs.Turns.{no_lost_turn}
use Rattle.lr_machine_laws.proofs.Worlds.{IsInOrder-first_world, IsInOrder-next}
use Rattle.lr_machine_wakeups.specs.WorldFacts.{present_of, HaveFacts}
use Rattle.lr_machine_wakeups.specs.Throughout.{IsInQueue, NoWakeupIsLost, ThroughoutEverySchedule}
use Rattle.lr_machine_wakeups.proofs.Worlds.{kept-first, kept-next}

kept-after : (events : List Event) (n : ℕ) (world : World) → n + length events < 2 ^ 64
    → AllByRecursion IsWithin events → IsInOrder world → HaveFacts n world
    → HaveFacts (n + length events) (world_after world events)
kept-after [] n world few within order kept =
    let same : n ≡ n + 0 = omega arith in
    subst (λ m. HaveFacts m world) same kept
kept-after (event ∷ events) n world few within order kept =
    let same : suc n + length events ≡ n + length (event ∷ events) = omega arith in
    subst (λ m. HaveFacts m (world_after (next world event) events)) same
    (kept-after events (suc n) (next world event) (omega (arith, few)) within.1
    (IsInOrder-next world event within.0 order)
    (kept-next n world event (omega (arith, few)) within.0 order kept))

-- the events of a front are among all of them
within-front : (front later : List Event) → AllByRecursion IsWithin (front ++ later)
    → AllByRecursion IsWithin front
within-front [] later within = tt
within-front (event ∷ front) later within = (within.0, within-front front later within.1)

pub facts_throughout : ThroughoutEverySchedule HaveFacts
facts_throughout events within few front later split =
    let long = ap length split in
    let parts = length-append front later in
    let same : 0 + length front ≡ length front = omega arith in
    subst (λ m. HaveFacts m (world_after first_world front)) same
    (kept-after front 0 first_world (omega (arith, few, long, parts))
    (within-front front later (subst (AllByRecursion IsWithin) split within))
    IsInOrder-first_world kept-first)

-- who sleeps for a fair lock is in its queue
in_queue : (n : ℕ) (world : World) → HaveFacts n world → (c thread : ℕ) (waiter : Waiter)
    (stand : Stand) → IsClient c → thread ≤ thread_limit
    → waiter_in (world.clients c) thread ≡ Some waiter
    → is_fair (channel_in (world.clients c).session thread waiter).kind ≡ true
    → stand_of (state_of world) world.moment (connection_of world c).outbox (world.clients c)
    thread
    ≡ Some stand
    → IsInQueue world c thread waiter stand
in_queue n world kept c thread waiter stand client inside was fair told = record {
  sleeps = sleeps;
  stays = λ lasts.
      kept.places (channel_in (world.clients c).session thread waiter)
      (owner_in (world.clients c).session thread) sleeps.place.stale fair
      (names_owner (owner_in (world.clients c).session thread) waiter.want fair)
      sleeps.place.kept lasts;
}
  where
    sleeps : SleepsInQueue (present_of world) (world.clients c) (connection_of world c) thread
        waiter stand
    sleeps =
        no_lost_turn n (present_of world) (world.clients c) (connection_of world c)
        (kept.facts c client) (state_of world) world.moment thread waiter stand inside was fair
        told

-- where the facts are so, no wakeup is lost
pub none_lost : (n : ℕ) (world : World) → HaveFacts n world → NoWakeupIsLost world
none_lost n world kept = record {
  stands = λ c thread waiter stand client inside was one told.
      no_lost_wakeup n (present_of world) (world.clients c) (connection_of world c)
      (kept.facts c client) (state_of world) world.moment thread waiter stand inside was one told;
  reaches = λ c thread waiter stand client inside was all told.
      no_lost_broadcast n (present_of world) (world.clients c) (connection_of world c)
      (kept.facts c client) (state_of world) thread waiter stand refl inside was all told;
  queues = in_queue n world kept;
}

pub none_lost_throughout : ThroughoutEverySchedule (λ n world. NoWakeupIsLost world)
none_lost_throughout events within few front later split =
    none_lost (length front) (world_after first_world front)
    (facts_throughout events within few front later split)
