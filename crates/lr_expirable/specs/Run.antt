-- What a call on expirable permits does to the keys.
use Rattle.std.specs.Prelude.{◌≡◌, ℕ, List, [], nat_lt, Bool, true, false, not, ◌&&◌, is_none, Option, Some, None, Result, Ok}
use Rattle.std.specs.Str.{bytes_eq}
use Rattle.lr_names.specs.Owner.{id_text}
use Rattle.lr_names.specs.declared.post.Post.{Post}
use Rattle.lr_keys.specs.declared.fault.KeyFault.{KeyFault}
use Rattle.lr_keys.specs.declared.value_kind.ValueKind.TheVariants.{Counter, Zset}
use Rattle.lr_keys.specs.KeySpace.{IsPrepared, KeyEntry, Keys, entry_at, live_entry, score_at}
use Rattle.lr_objects.specs.Op.{call_on}
use Rattle.lr_objects.specs.declared.kinds.Call.TheVariants as kinds
use Rattle.lr_objects.specs.declared.op.Op.{Op}
use Rattle.lr_objects.specs.declared.permits.PermitCall.{PermitCall}
use Rattle.lr_objects.specs.declared.permits.PermitCall.TheVariants.{Set, Try, Release, Count}
use Rattle.lr_objects.specs.declared.reply.Reply.{Reply}
use Rattle.lr_model.specs.Moment.{is_lease}
use Rattle.lr_model.specs.Outcome.{Outcome}
use Rattle.lr_model.specs.Permits.{Permits, lease_under, set_step, try_step, release_step, count_step}
use Rattle.lr_expirable.specs.Stands.{ArePermitsAt}
use Rattle.lr_expirable.specs.Step.{IsPermitStep}

-- a call on the permits of this name
abbrev pub permit_op : List ℕ → PermitCall → Op
permit_op name call = call_on name (kinds.Permits call)

-- whether the lease that a call gives is one
abbrev pub has_lease : PermitCall → Bool
has_lease (Try id lease) = is_lease lease
has_lease _ = true

-- whether a lease lasts beyond a moment, by its score
abbrev pub is_taken : ℕ → Result (Option ℕ) KeyFault → Bool
is_taken moment (Ok (Some deadline)) = nat_lt moment deadline
is_taken moment _ = false

-- whether a call may make something, by the entries of the number and of the leases: the number is
-- set where it isn't there, and an id takes a permit that has none
abbrev pub lacks : PermitCall → ℕ → Option KeyEntry → Option KeyEntry → Bool
lacks (Set number) moment number_entry leases_entry = is_none number_entry
lacks (Try id lease) moment number_entry leases_entry =
    not (is_taken moment (score_at (id_text id) leases_entry))
lacks _ moment number_entry leases_entry = false

-- only that takes memory
abbrev pub takes_memory : PermitCall → ℕ → Option KeyEntry → Option KeyEntry → Bool
takes_memory call moment number_entry leases_entry =
    has_lease call && lacks call moment number_entry leases_entry

-- what a call makes of permits whose leases are all live, for a lease that is one
abbrev pub live_call : List ℕ → ℕ → PermitCall → Permits → Outcome Permits
live_call name moment (Set number) = set_step name number
live_call name moment (Try id lease) = try_step moment id lease
live_call name moment (Release id) = release_step name id
live_call name moment Count = count_step

-- memory was taken for what a call may make of these permits
abbrev pub IsReadyFor : PermitCall → Keys → List ℕ → List ℕ → Permits → Type 0
IsReadyFor (Set number) keys number_key leases_key permits =
    permits.number ≡ None → IsPrepared keys number_key Counter []
IsReadyFor (Try id lease) keys number_key leases_key permits =
    lease_under id permits.leases ≡ None → IsPrepared keys leases_key Zset (id_text id)
IsReadyFor _ keys number_key leases_key permits = Unit {0}

-- At a moment a call on the permits of these two keys was answered so: whatever permits the keys had,
-- the reply and the message are the right ones, and they have what becomes of them. All other keys
-- hold what is live of them.
pub record IsPermitRun (old new : Keys) (number leases : List ℕ) (moment : ℕ)
    (answer : Reply × Option Post) (outcome : Permits → Outcome Permits) : Type 0 where
  pub step : (permits : Permits) → ArePermitsAt old number leases permits
      → IsPermitStep new number leases answer (outcome permits)
  pub others : (key : List ℕ) → bytes_eq number key ≡ false → bytes_eq leases key ≡ false
      → entry_at new key ≡ live_entry moment (entry_at old key)
  pub now : new.moment ≡ moment
