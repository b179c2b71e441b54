-- Places among a few members, found one after the other.
use Rattle.std.specs.Prelude.{◌≡◌, ℕ, List, ◌<◌, ◌≤◌, Some, length, insert, remove, slice_index_or}
use Rattle.lr_sorted.specs.Members.{Scored, Members, score_of, without_member, inserted}

-- a member is at this place
pub record IsPlaceOf (member : List ℕ) (members : Members) (place : ℕ) : Type 0 where
  pub within : place < length members
  pub score : (m : Scored) → score_of member members ≡ Some (slice_index_or members place m).1
  pub without : without_member member members ≡ remove members place

-- a new member belongs at this place
pub record IsPlaceFor (new : Scored) (members : Members) (place : ℕ) : Type 0 where
  pub within : place ≤ length members
  pub inserted : insert members place new ≡ inserted new members
