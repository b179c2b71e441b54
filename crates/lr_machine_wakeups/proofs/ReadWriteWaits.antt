-- Who waits for a read-write lock is told to wait until the last hold ends, at most.
use Rattle.std.proofs.Common.{◌≡◌, ℕ, ◌+◌, ◌-◌, ◌<◌, ◌≤◌, ◌==◌, nat_lt, List, [], ◌∷◌, length, Bool, true, false, Option, Some, None, if◌then◌else◌, refl, ap, arith}
use Rattle.std.specs.List.{AllByRecursion, find}
use Rattle.std.proofs.lemmas.Bool.{ltb-true}
use Rattle.std.proofs.lemmas.Option.{same_Some}
use Rattle.lr_limits.specs.Limits.{hold_limit, member_limit}
use Rattle.lr_names.specs.Owner.{ThreadOfClient}
use Rattle.lr_objects.specs.declared.access.Access.TheVariants.{Read, Write}
use Rattle.lr_objects.specs.declared.kinds.Function.TheVariants.{ReadWrite}
use Rattle.lr_objects.specs.declared.read_write.ReadWriteCall.{ReadWriteCall}
use Rattle.lr_objects.specs.declared.read_write.ReadWriteCall.TheVariants as calls
use Rattle.lr_objects.specs.declared.read_write.ReadWriteFunction.{ReadWriteFunction}
use Rattle.lr_objects.specs.declared.reply.Reply.TheVariants.{Granted, Kept, Freed, NotHeld, Renewed, Lost, TooDeep, TooMany, BadLease}
use Rattle.lr_model.specs.declared.read_write_hold.ReadWriteHold.{ReadWriteHold}
use Rattle.lr_model.specs.Moment.{is_lease, is_live}
use Rattle.lr_model.specs.Outcome.{silent_outcome, with_lease}
use Rattle.lr_model.specs.ReadWrite.{ReadWriteLock, LockOutcome, hold_of, writer_beside, is_writer_beside, live_holds, last_deadline, without_hold, holding_so, first_hold, take_again, read_unhindered, read_beside, write_first, write_with, ended, give_back_with, renew_with, read_write_call}
use Rattle.lr_machine_wakeups.proofs.Answers.{TellsTime, lets}

-- all these holds end later than now
abbrev AreAhead : ℕ → ReadWriteLock → Type 0
AreAhead moment held = AllByRecursion (λ hold. moment < hold.deadline) held

live-ahead : (moment : ℕ) (held : ReadWriteLock) → AreAhead moment (live_holds moment held)
live-ahead moment [] = tt
live-ahead moment (hold ∷ rest) = by (is_live hold.deadline moment) refl (live-ahead moment rest)
  where
    by : (live : Bool) → is_live hold.deadline moment ≡ live
        → AreAhead moment (live_holds moment rest)
        → AreAhead moment (if live then hold ∷ live_holds moment rest else live_holds moment rest)
    by true e later = (ltb-true moment hold.deadline e, later)
    by false e later = later

no_hold : (hold : ReadWriteHold) → None ≡ Some hold → ⊥
no_hold hold e = absurd (cc e)

-- one that is found ends later than now, and by the last deadline
found-ahead : (passes : ReadWriteHold → Bool) (moment : ℕ) (held : ReadWriteLock)
    (hold : ReadWriteHold) → AreAhead moment held → find passes held ≡ Some hold
    → (moment < hold.deadline) × (hold.deadline ≤ last_deadline held)
found-ahead passes moment [] hold ahead found = absurd (no_hold hold found)
found-ahead passes moment (first ∷ rest) hold ahead found =
    by (passes first) found (found-ahead passes moment rest hold ahead.1)
  where
    by : (here : Bool) → (if here then Some first else find passes rest) ≡ Some hold
        → (find passes rest ≡ Some hold
        → (moment < hold.deadline) × (hold.deadline ≤ last_deadline rest))
        → (moment < hold.deadline) × (hold.deadline ≤ last_deadline (first ∷ rest))
    by true e later =
        let same : first.deadline ≡ hold.deadline =
        ap (λ (x : ReadWriteHold). x.deadline) (same_Some first hold e) in
        (omega (arith, same, ahead.0), omega (arith, same))
    by false e later = let more = later e in (more.0, omega (arith, more.1))

module _ (f : ReadWriteFunction) (moment : ℕ) where
  -- an outcome whose reply says how long to wait, if it refuses
  abbrev Tells : ℕ → LockOutcome → Type 0
  Tells until outcome = TellsTime (ReadWrite f) moment until outcome.reply

  leased : (until lease : ℕ) (held : ReadWriteLock) (outcome : LockOutcome) → Tells until outcome
      → Tells until (with_lease lease held outcome)
  leased until lease held outcome tells = by (is_lease lease)
    where
      by : (is : Bool) → Tells until (if is then outcome else silent_outcome BadLease held)
      by true = tells
      by false = lets (ReadWrite f) moment until BadLease refl

  tells-again : (until deadline : ℕ) (held : ReadWriteLock) (own : ReadWriteHold)
      → Tells until (take_again deadline held own)
  tells-again until deadline held own = by (own.count == hold_limit)
    where
      by : (full : Bool)
          → Tells until
          (if full then silent_outcome TooDeep held
          else holding_so Granted
          (record own { count = own.count + 1; deadline = deadline }) held)
      by true = lets (ReadWrite f) moment until TooDeep refl
      by false = lets (ReadWrite f) moment until Granted refl

  tells-unhindered : (until : ℕ) (owner : ThreadOfClient) (deadline : ℕ) (held : ReadWriteLock)
      (own : Option ReadWriteHold) → Tells until (read_unhindered owner deadline held own)
  tells-unhindered until owner deadline held (Some own) = tells-again until deadline held own
  tells-unhindered until owner deadline held None = by (nat_lt (length held) member_limit)
    where
      by : (room : Bool)
          → Tells until
          (if room then holding_so Granted (first_hold owner Read deadline) held
          else silent_outcome TooMany held)
      by true = lets (ReadWrite f) moment until Granted refl
      by false = lets (ReadWrite f) moment until TooMany refl

  tells-read : (owner : ThreadOfClient) (lease : ℕ) (held : ReadWriteLock) → AreAhead moment held
      → (writer : Option ReadWriteHold) → writer_beside owner held ≡ writer
      → Tells (last_deadline held) (read_beside moment owner lease held writer)
  tells-read owner lease held ahead None is blocked =
      tells-unhindered (last_deadline held) owner (moment + lease) held (hold_of owner Read held)
      blocked
  tells-read owner lease held ahead (Some writer) is blocked =
      let there = found-ahead (is_writer_beside owner) moment held writer ahead is in
      (writer.deadline - moment, refl, omega (arith, there.0, there.1))

  tells-write_first : (owner : ThreadOfClient) (lease : ℕ) (held : ReadWriteLock)
      → AreAhead moment held → Tells (last_deadline held) (write_first moment owner lease held)
  tells-write_first owner lease [] ahead blocked = lets (ReadWrite f) moment 0 Granted refl blocked
  tells-write_first owner lease (hold ∷ rest) ahead blocked =
      (last_deadline (hold ∷ rest) - moment, refl, omega (arith, ahead.0))

  tells-write : (owner : ThreadOfClient) (lease : ℕ) (held : ReadWriteLock)
      → AreAhead moment held → (own : Option ReadWriteHold)
      → Tells (last_deadline held) (write_with moment owner lease held own)
  tells-write owner lease held ahead (Some own) =
      tells-again (last_deadline held) (moment + lease) held own
  tells-write owner lease held ahead None = tells-write_first owner lease held ahead

  tells-back_with : (until : ℕ) (name : List ℕ) (deadline : ℕ) (held : ReadWriteLock)
      (own : Option ReadWriteHold) → Tells until (give_back_with name deadline held own)
  tells-back_with until name deadline held None = lets (ReadWrite f) moment until NotHeld refl
  tells-back_with until name deadline held (Some own) = by (own.count == 1)
    where
      by : (last : Bool)
          → Tells until
          (if last then ended name own.access (without_hold own.owner own.access held)
          else holding_so Kept
          (record own { count = own.count - 1; deadline = deadline }) held)
      by true = lets (ReadWrite f) moment until Freed refl
      by false = lets (ReadWrite f) moment until Kept refl

  tells-renew_with : (until deadline : ℕ) (held : ReadWriteLock) (own : Option ReadWriteHold)
      → Tells until (renew_with deadline held own)
  tells-renew_with until deadline held None = lets (ReadWrite f) moment until Lost refl
  tells-renew_with until deadline held (Some own) = lets (ReadWrite f) moment until Renewed refl

  pub tells-read_write : (name : List ℕ) (call : ReadWriteCall) (held : ReadWriteLock)
      → Tells (last_deadline (live_holds moment held)) (read_write_call name moment call held)
  tells-read_write name (calls.Take Read owner lease) held =
      let live = live_holds moment held in
      leased (last_deadline live) lease held
      (read_beside moment owner lease live (writer_beside owner live))
      (tells-read owner lease live (live-ahead moment held) (writer_beside owner live) refl)
  tells-read_write name (calls.Take Write owner lease) held =
      let live = live_holds moment held in
      leased (last_deadline live) lease held
      (write_with moment owner lease live (hold_of owner Write live))
      (tells-write owner lease live (live-ahead moment held) (hold_of owner Write live))
  tells-read_write name (calls.Unlock access owner rest) held =
      let live = live_holds moment held in
      leased (last_deadline live) rest held
      (give_back_with name (moment + rest) live (hold_of owner access live))
      (tells-back_with (last_deadline live) name (moment + rest) live
      (hold_of owner access live))
  tells-read_write name (calls.Renew access owner lease) held =
      let live = live_holds moment held in
      leased (last_deadline live) lease held
      (renew_with (moment + lease) live (hold_of owner access live))
      (tells-renew_with (last_deadline live) (moment + lease) live (hold_of owner access live))
