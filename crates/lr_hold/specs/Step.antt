-- What a step does to the key of one hold, at the moment of the keys.
use Rattle.std.specs.Prelude.{◌≡◌, ◌<◌, ℕ, ℤ, List, [], ◌∷◌, Bool, true, false, Option, Some, None, option_map, if◌then◌else◌}
use Rattle.std.specs.Option.{ForSome}
use Rattle.lr_names.specs.Owner.{ThreadOfClient, same_owner}
use Rattle.lr_keys.specs.KeySpace.{Fields, KeyEntry, Keys, entry_at}
use Rattle.lr_objects.specs.declared.reply.Reply.{Reply}
use Rattle.lr_objects.specs.declared.reply.Reply.TheVariants.{Freed}
use Rattle.lr_model.specs.declared.hold.Hold.{Hold}
use Rattle.lr_model.specs.Outcome.{Outcome}
use Rattle.lr_hold.specs.Holds.{IsHold, hold_entry}

-- a hold that is live at the moment, or none
pub record IsLiveHold (moment : ℕ) (held : Option Hold) : Type 0 where
  pub within : ForSome held IsHold
  pub live : ForSome held (λ hold. moment < hold.deadline)

-- at the moment this is held under a key with this entry
pub record IsHeld (moment : ℕ) (entry : Option KeyEntry) (held : Option Hold) : Type 0 where
  pub stands : entry ≡ option_map hold_entry held
  pub hold : IsLiveHold moment held

-- the step was answered as the outcome says, and the outcome's hold is held under the key now
pub record IsHoldStep (new : Keys) (key : List ℕ) (reply : Reply)
    (outcome : Outcome (Option Hold)) : Type 0 where
  pub answer : reply ≡ outcome.reply
  pub held : IsHeld new.moment (entry_at new key) outcome.object

-- how many times an owner holds what is held so
abbrev pub hold_count : ThreadOfClient → Option Hold → ℕ
hold_count owner None = 0
hold_count owner (Some hold) = if same_owner hold.owner owner then hold.count else 0

-- a hash with one field
abbrev pub one_field : List ℕ → ℤ → Option ℕ → KeyEntry
one_field field number expiry = record { value = Fields ((field, number) ∷ []); expiry = expiry }

-- whether the reply says that what was held has come free: those who wait are told
abbrev pub is_freed : Reply → Bool
is_freed Freed = true
is_freed _ = false
