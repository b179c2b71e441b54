-- What an owner can hold, and what a call has to do with who holds its object.
use Rattle.std.specs.Prelude.{ℕ, List, Bool, true, false, not}
use Rattle.lr_names.specs.Owner.{ThreadOfClient}
use Rattle.lr_names.specs.declared.kind.Kind.{Kind}

-- alone, or beside others that hold in the same mode
pub data HoldMode : Type 0 where
  Exclusive : HoldMode
  Shared : HoldMode

-- whether a mode lets nobody hold beside it
abbrev pub is_exclusive : HoldMode → Bool
is_exclusive Exclusive = true
is_exclusive Shared = false

-- whether two modes are one
abbrev pub same_mode : HoldMode → HoldMode → Bool
same_mode Exclusive mode = is_exclusive mode
same_mode Shared mode = not (is_exclusive mode)

-- what an owner can hold: an object of a kind, by its name, in a mode
pub record Claim : Type 0 where
  pub kind : Kind
  pub name : List ℕ
  pub mode : HoldMode
  pub owner : ThreadOfClient

-- What a call has to do with who holds its object: nothing, or it takes, gives back or renews what
-- its owner holds in a mode, with a lease or a rest lease, or it takes the object from whoever holds
-- it.
pub data Concern : Type 0 where
  NoHold : Concern
  OwnHold : HoldMode → ThreadOfClient → ℕ → Concern
  AllHolds : Concern
