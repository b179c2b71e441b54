-- The keys that hold what one owner holds: a hash from the owner's text to the hold count, gone at
-- the deadline, as Redisson keeps its lock.
use Rattle.std.specs.Prelude.{◌≡◌, ◌≤◌, ◌==◌, ℕ, pos, List, [], ◌∷◌, Option, Some, None, option_map, if◌then◌else◌}
use Rattle.lr_limits.specs.Limits.{hold_limit, never}
use Rattle.lr_names.specs.Key.{key_text}
use Rattle.lr_names.specs.Name.{IsName}
use Rattle.lr_names.specs.Owner.{IsOwner, owner_text}
use Rattle.lr_names.specs.declared.part.Part.{Part}
use Rattle.lr_keys.specs.KeySpace.{KeyEntry, Fields, Keys, entry_at}
use Rattle.lr_model.specs.declared.hold.Hold.{Hold}
use Rattle.lr_model.specs.Hold.{live_hold}

-- a key expires at the deadline, and what never ends has no expiry
abbrev pub expiry_of : ℕ → Option ℕ
expiry_of deadline = if deadline == never then None else Some deadline

-- the entry of what is held so
abbrev pub hold_entry : Hold → KeyEntry
hold_entry hold = record {
  value = Fields ((owner_text hold.owner, pos hold.count) ∷ []);
  expiry = expiry_of hold.deadline;
}

-- a hold as a key can have it: of a thread of a client, 1 to a million times, with a deadline of at
-- most 63 bits
pub record IsHold (hold : Hold) : Type 0 where
  pub owner : IsOwner hold.owner
  pub some : 1 ≤ hold.count
  pub most : hold.count ≤ hold_limit
  pub deadline : hold.deadline ≤ never

-- The keys of a part stand for holds by name: the key of each name holds what is live of its hold.
pub record HoldsStand (part : Part) (keys : Keys) (holds : List ℕ → Option Hold) : Type 0 where
  pub at_keys : (name : List ℕ) → IsName name
      → entry_at keys (key_text part name)
      ≡ option_map hold_entry (live_hold keys.moment (holds name))
  pub bounds : (name : List ℕ) (hold : Hold) → holds name ≡ Some hold → IsHold hold
