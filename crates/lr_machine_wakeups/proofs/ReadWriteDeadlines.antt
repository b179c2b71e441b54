-- What the calls on a read-write lock leave of its holds: they last no longer than the peak.
use Rattle.std.proofs.Common.{◌≡◌, ℕ, ◌+◌, ◌-◌, ◌≤◌, ◌==◌, max, nat_lt, List, [], ◌∷◌, length, Bool, true, false, Option, Some, None, if◌then◌else◌, refl, arith}
use Rattle.std.proofs.lemmas.Bool.{cond_both, ltb-true, ltb-false}
use Rattle.lr_limits.specs.Limits.{hold_limit, member_limit}
use Rattle.lr_names.specs.Owner.{ThreadOfClient}
use Rattle.lr_objects.specs.declared.access.Access.{Access}
use Rattle.lr_objects.specs.declared.access.Access.TheVariants.{Read, Write}
use Rattle.lr_objects.specs.declared.read_write.ReadWriteCall.{ReadWriteCall}
use Rattle.lr_objects.specs.declared.read_write.ReadWriteCall.TheVariants as calls
use Rattle.lr_objects.specs.declared.reply.Reply.{Reply}
use Rattle.lr_objects.specs.declared.reply.Reply.TheVariants.{Granted, Busy, Kept, NotHeld, Lost, TooDeep, TooMany, BadLease}
use Rattle.lr_model.specs.declared.read_write_hold.ReadWriteHold.{ReadWriteHold}
use Rattle.lr_model.specs.Moment.{is_lease, is_live}
use Rattle.lr_model.specs.Outcome.{silent_outcome, with_lease}
use Rattle.lr_model.specs.ReadWrite.{ReadWriteLock, LockOutcome, is_hold_of, hold_of, writer_beside, live_holds, with_hold, without_hold, last_deadline, holding_so, first_hold, take_again, read_unhindered, read_beside, write_first, write_with, ended, give_back_with, renew_with, read_write_call, read_write_concern}
use Rattle.lr_model.specs.Tenure.{lease_in}
use Rattle.lr_machine_wakeups.proofs.HoldDeadlines.{peak_given}

-- where no hold lasts beyond the peak, or each that does has ended by a moment, none is live later
-- that does
pub live-until : (peak moment later : ℕ) (held : ReadWriteLock) → moment ≤ later
    → last_deadline held ≤ max peak moment → last_deadline (live_holds later held) ≤ peak
live-until peak moment later [] le ends = omega arith
live-until peak moment later (hold ∷ rest) le ends =
    by (is_live hold.deadline later) refl
    (live-until peak moment later rest le (omega (arith, ends)))
  where
    by : (live : Bool) → is_live hold.deadline later ≡ live
        → last_deadline (live_holds later rest) ≤ peak
        → last_deadline (if live then hold ∷ live_holds later rest else live_holds later rest)
        ≤ peak
    by true e more = omega (arith, ends, more, ltb-true later hold.deadline e, le)
    by false e more = more

-- and the other way round
pub ends-while_live : (peak moment : ℕ) (held : ReadWriteLock)
    → last_deadline (live_holds moment held) ≤ peak → last_deadline held ≤ max peak moment
ends-while_live peak moment [] = λ until. omega arith
ends-while_live peak moment (hold ∷ rest) =
    by (is_live hold.deadline moment) refl (ends-while_live peak moment rest)
  where
    by : (live : Bool) → is_live hold.deadline moment ≡ live
        → (last_deadline (live_holds moment rest) ≤ peak → last_deadline rest ≤ max peak moment)
        → last_deadline (if live then hold ∷ live_holds moment rest else live_holds moment rest)
        ≤ peak
        → last_deadline (hold ∷ rest) ≤ max peak moment
    by true e more until = omega (arith, until, more (omega (arith, until)))
    by false e more until =
        omega (arith, more until, ltb-false moment hold.deadline e)

-- one hold more, or another in its place
with_hold-last : (hold : ReadWriteHold) (held : ReadWriteLock)
    → last_deadline (with_hold hold held) ≤ max hold.deadline (last_deadline held)
with_hold-last hold [] = omega arith
with_hold-last hold (first ∷ rest) =
    let more = with_hold-last hold rest in
    cond_both (is_hold_of hold.owner hold.access first) (hold ∷ rest) (first ∷ with_hold hold rest)
    (λ now. last_deadline now ≤ max hold.deadline (last_deadline (first ∷ rest)))
    (λ same. omega arith) (λ other. omega (arith, more))

-- one hold fewer
without_hold-last : (owner : ThreadOfClient) (access : Access) (held : ReadWriteLock)
    → last_deadline (without_hold owner access held) ≤ last_deadline held
without_hold-last owner access [] = omega arith
without_hold-last owner access (first ∷ rest) =
    let more = without_hold-last owner access rest in
    cond_both (is_hold_of owner access first) rest (first ∷ without_hold owner access rest)
    (λ now. last_deadline now ≤ last_deadline (first ∷ rest))
    (λ same. omega arith) (λ other. omega (arith, more))

live-last : (moment : ℕ) (held : ReadWriteLock)
    → last_deadline (live_holds moment held) ≤ last_deadline held
live-last moment [] = omega arith
live-last moment (hold ∷ rest) =
    let more = live-last moment rest in
    cond_both (is_live hold.deadline moment) (hold ∷ live_holds moment rest)
    (live_holds moment rest) (λ now. last_deadline now ≤ last_deadline (hold ∷ rest))
    (λ live. omega (arith, more)) (λ gone. omega (arith, more))

-- an outcome after which each hold lasts no longer than the peak that its reply gives, or has ended
abbrev LeavesPeak : ℕ → ℕ → ℕ → LockOutcome → Type 0
LeavesPeak peak moment lease outcome =
    last_deadline outcome.object ≤ max (peak_given peak moment lease outcome.reply) moment

leased : (peak moment lease rest : ℕ) (held : ReadWriteLock) (outcome : LockOutcome)
    → last_deadline held ≤ max peak moment → LeavesPeak peak moment lease outcome
    → LeavesPeak peak moment lease (with_lease rest held outcome)
leased peak moment lease rest held outcome ends leaves = by (is_lease rest)
  where
    by : (is : Bool)
        → LeavesPeak peak moment lease (if is then outcome else silent_outcome BadLease held)
    by true = leaves
    by false = omega (arith, ends)

module _ (peak moment lease : ℕ) (held : ReadWriteLock)
    (ends : last_deadline held ≤ max peak moment) where
  -- nothing changes
  same : (reply : Reply) → LeavesPeak peak moment lease (silent_outcome reply held)
  same reply = omega (arith, ends)

  -- the reply gives a hold its deadline
  given : (hold : ReadWriteHold) → hold.deadline ≡ moment + lease
      → last_deadline (with_hold hold held) ≤ max (max peak (moment + lease)) moment
  given hold is = omega (arith, ends, is, with_hold-last hold held)

  take_again-peak : (own : ReadWriteHold)
      → LeavesPeak peak moment lease (take_again (moment + lease) held own)
  take_again-peak own = by (own.count == hold_limit)
    where
      by : (full : Bool)
          → LeavesPeak peak moment lease
          (if full then silent_outcome TooDeep held
          else holding_so Granted
          (record own { count = own.count + 1; deadline = moment + lease }) held)
      by true = same TooDeep
      by false = given (record own { count = own.count + 1; deadline = moment + lease }) refl

  read_unhindered-peak : (owner : ThreadOfClient) (own : Option ReadWriteHold)
      → LeavesPeak peak moment lease (read_unhindered owner (moment + lease) held own)
  read_unhindered-peak owner (Some own) = take_again-peak own
  read_unhindered-peak owner None = by (nat_lt (length held) member_limit)
    where
      by : (room : Bool)
          → LeavesPeak peak moment lease
          (if room then holding_so Granted (first_hold owner Read (moment + lease)) held
          else silent_outcome TooMany held)
      by true = given (first_hold owner Read (moment + lease)) refl
      by false = same TooMany

  read_beside-peak : (owner : ThreadOfClient) (writer : Option ReadWriteHold)
      → LeavesPeak peak moment lease (read_beside moment owner lease held writer)
  read_beside-peak owner (Some writer) = same (Busy (writer.deadline - moment))
  read_beside-peak owner None = read_unhindered-peak owner (hold_of owner Read held)

  give_back_with-peak : (name : List ℕ) (own : Option ReadWriteHold)
      → LeavesPeak peak moment lease (give_back_with name (moment + lease) held own)
  give_back_with-peak name None = same NotHeld
  give_back_with-peak name (Some own) = by (own.count == 1)
    where
      by : (last : Bool)
          → LeavesPeak peak moment lease
          (if last then ended name own.access (without_hold own.owner own.access held)
          else holding_so Kept
          (record own { count = own.count - 1; deadline = moment + lease }) held)
      by true = omega (arith, ends, without_hold-last own.owner own.access held)
      by false = given (record own { count = own.count - 1; deadline = moment + lease }) refl

  renew_with-peak : (own : Option ReadWriteHold)
      → LeavesPeak peak moment lease (renew_with (moment + lease) held own)
  renew_with-peak None = same Lost
  renew_with-peak (Some own) = given (record own { deadline = moment + lease }) refl

write_first-peak : (peak moment lease : ℕ) (owner : ThreadOfClient) (held : ReadWriteLock)
    → last_deadline held ≤ max peak moment
    → LeavesPeak peak moment lease (write_first moment owner lease held)
write_first-peak peak moment lease owner [] ends =
    given peak moment lease [] ends (first_hold owner Write (moment + lease)) refl
write_first-peak peak moment lease owner (hold ∷ rest) ends =
    same peak moment lease (hold ∷ rest) ends (Busy (last_deadline (hold ∷ rest) - moment))

write_with-peak : (peak moment lease : ℕ) (owner : ThreadOfClient) (held : ReadWriteLock)
    → last_deadline held ≤ max peak moment → (own : Option ReadWriteHold)
    → LeavesPeak peak moment lease (write_with moment owner lease held own)
write_with-peak peak moment lease owner held ends (Some own) =
    take_again-peak peak moment lease held ends own
write_with-peak peak moment lease owner held ends None =
    write_first-peak peak moment lease owner held ends

-- The lease that a call gives.

abbrev pub read_write_lease : ReadWriteCall → ℕ
read_write_lease call = lease_in (read_write_concern call)

pub read_write_call-peak : (peak moment : ℕ) (name : List ℕ) (call : ReadWriteCall)
    (held : ReadWriteLock) → last_deadline held ≤ max peak moment
    → LeavesPeak peak moment (read_write_lease call) (read_write_call name moment call held)
read_write_call-peak peak moment name (calls.Take Read owner lease) held ends =
    let live = live_holds moment held in
    let still : last_deadline live ≤ max peak moment = omega (arith, ends, live-last moment held) in
    leased peak moment lease lease held
    (read_beside moment owner lease live (writer_beside owner live)) ends
    (read_beside-peak peak moment lease live still owner (writer_beside owner live))
read_write_call-peak peak moment name (calls.Take Write owner lease) held ends =
    let live = live_holds moment held in
    let still : last_deadline live ≤ max peak moment = omega (arith, ends, live-last moment held) in
    leased peak moment lease lease held
    (write_with moment owner lease live (hold_of owner Write live)) ends
    (write_with-peak peak moment lease owner live still (hold_of owner Write live))
read_write_call-peak peak moment name (calls.Unlock access owner rest) held ends =
    let live = live_holds moment held in
    let still : last_deadline live ≤ max peak moment = omega (arith, ends, live-last moment held) in
    leased peak moment rest rest held
    (give_back_with name (moment + rest) live (hold_of owner access live)) ends
    (give_back_with-peak peak moment rest live still name (hold_of owner access live))
read_write_call-peak peak moment name (calls.Renew access owner lease) held ends =
    let live = live_holds moment held in
    let still : last_deadline live ≤ max peak moment = omega (arith, ends, live-last moment held) in
    leased peak moment lease lease held
    (renew_with (moment + lease) live (hold_of owner access live)) ends
    (renew_with-peak peak moment lease live still (hold_of owner access live))
