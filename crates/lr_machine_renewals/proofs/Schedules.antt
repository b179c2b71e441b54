-- Throughout every schedule watched holds are renewed in time.
use Rattle.std.proofs.Common.{◌≡◌, ℕ, suc, ◌+◌, ◌<◌, ◌^◌, List, [], ◌∷◌, ◌++◌, length, length-append, ap, subst, arith}
use Rattle.std.specs.List.{AllByRecursion}
use Rattle.lr_machine.specs.declared.event.Event.{Event}
use Rattle.lr_machine.specs.Renewals.{RenewsInTime}
use Rattle.lr_machine.specs.Sound.{IsInOrder}
use Rattle.lr_machine.specs.Within.{IsWithin}
use Rattle.lr_machine.specs.World.{World, first_world, next, world_after}
use Rattle.lr_machine_laws.proofs.Worlds.{IsInOrder-first_world, IsInOrder-next}
use Rattle.lr_machine_wakeups.specs.Throughout.{ThroughoutEverySchedule}
use Rattle.lr_machine_renewals.specs.WatchFacts.{HaveWatches}
use Rattle.lr_machine_renewals.proofs.Worlds.{watches-first, watches-next, renewed-in_time}

watches-after : (events : List Event) (n : ℕ) (world : World) → n + length events < 2 ^ 64
    → AllByRecursion IsWithin events → IsInOrder world → HaveWatches n world
    → HaveWatches (n + length events) (world_after world events)
watches-after [] n world few within order were =
    let same : n ≡ n + 0 = omega arith in
    subst (λ m. HaveWatches m world) same were
watches-after (event ∷ events) n world few within order were =
    let same : suc n + length events ≡ n + length (event ∷ events) = omega arith in
    subst (λ m. HaveWatches m (world_after (next world event) events)) same
    (watches-after events (suc n) (next world event) (omega (arith, few)) within.1
    (IsInOrder-next world event within.0 order)
    (watches-next n world event (omega (arith, few)) within.0 order were))

-- the events of a front are among all of them
within-front : (front later : List Event) → AllByRecursion IsWithin (front ++ later)
    → AllByRecursion IsWithin front
within-front [] later within = tt
within-front (event ∷ front) later within = (within.0, within-front front later within.1)

pub watches_throughout : ThroughoutEverySchedule HaveWatches
watches_throughout events within few front later split =
    let long = ap length split in
    let parts = length-append front later in
    let same : 0 + length front ≡ length front = omega arith in
    subst (λ m. HaveWatches m (world_after first_world front)) same
    (watches-after front 0 first_world (omega (arith, few, long, parts))
    (within-front front later (subst (AllByRecursion IsWithin) split within))
    IsInOrder-first_world watches-first)

pub renewed_throughout : ThroughoutEverySchedule (λ n world. RenewsInTime world)
renewed_throughout events within few front later split =
    renewed-in_time (length front) (world_after first_world front)
    (watches_throughout events within few front later split)
