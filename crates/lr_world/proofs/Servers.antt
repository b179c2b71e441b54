-- The server of a world: what it is now, and the entries that it makes.
use Rattle.std.proofs.Common.{◌≡◌, ℕ, ◌≤◌, ◌<◌, length, false, nat_le, Option, Some, None, Result, Ok, Err, OnErr, refl, sym, ap, ◌∙◌, arith}
use Rattle.std.proofs.lemmas.Bool.{lt-leb}
use Rattle.lr_limits.specs.Limits.{entry_limit, last_moment}
use Rattle.lr_model.specs.declared.entry.Act.{Act}
use Rattle.lr_model.specs.History.{State, state_at_start, after, entry_of as history_entry}
use Rattle.lr_model.specs.Moment.{later}
use Rattle.lr_machine.specs.World.{first_state}
use Rattle.lr_server.specs.declared.fault.StepFault.{StepFault}
use Rattle.lr_server.specs.declared.fault.StepFault.TheVariants as faults
use Rattle.lr_server.specs.Server.{ServerValue, state_of, connection_of, entry_of, moment_at}

-- no fault is found where there is none
pub none_some : (found : Option StepFault) (fault : StepFault) → found ≡ None → found ≡ Some fault
    → ⊥
none_some found fault none some = absurd (cc (sym none ∙ some))

-- of two faults that were found
pub one_fault : (found : Option StepFault) (a b : StepFault) → found ≡ Some a → found ≡ Some b
    → a ≡ b
one_fault found a b is_a is_b = cc (sym is_a ∙ is_b)

-- a fault that has no other cause is want of memory
pub only_memory : (fault : StepFault) → (fault ≡ faults.HistoryFull → ⊥)
    → (fault ≡ faults.Dropped → ⊥) → (fault ≡ faults.TooManyConnections → ⊥)
    → fault ≡ faults.NoMemory
only_memory faults.NoMemory full dropped many = refl
only_memory faults.HistoryFull full dropped many = absurd (full refl)
only_memory faults.Dropped full dropped many = absurd (dropped refl)
only_memory faults.TooManyConnections full dropped many = absurd (many refl)

-- the history takes more
pub not_full : (server : ServerValue) → length server.entries < entry_limit
    → nat_le entry_limit (length server.entries) ≡ false
not_full server room = lt-leb entry_limit (length server.entries) room

module _ (server : ServerValue) (first : server.last ≡ 128) where
  -- what it is now
  pub state_is : state_of server ≡ after first_state server.entries
  state_is = ap (λ last. after (state_at_start last) server.entries) first

  pub connection_is : (conn : ℕ)
      → connection_of server conn ≡ (after first_state server.entries).board conn
  connection_is conn = ap (λ (s : State). s.board conn) state_is

  -- an entry is made at the moment that was given
  pub moment_is : (moment : ℕ) → (after first_state server.entries).moment ≤ moment
      → moment ≤ last_moment → moment_at server moment ≡ moment
  moment_is moment in_time early = ap (λ (s : State). later s.moment moment) state_is ∙ same
    where
      same : later (after first_state server.entries).moment moment ≡ moment
      same = omega (arith, in_time, early)

  pub entry_is : (moment caller conn : ℕ) (act : Act)
      → (after first_state server.entries).moment ≤ moment → moment ≤ last_moment
      → entry_of server moment caller conn act ≡ history_entry moment caller conn act
  entry_is moment caller conn act in_time early =
      ap (λ m. history_entry m caller conn act) (moment_is moment in_time early)

-- what is so anyhow is so after an error
pub on_err : {A E P : Type 0} (result : Result A E) → P → OnErr result P
on_err (Ok value) p = tt
on_err (Err error) p = p
