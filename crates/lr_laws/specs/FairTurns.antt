-- Whose turn it is at a fair lock, and who keeps a place in its queue: this project's own.
use Rattle.std.specs.Prelude.{◌≡◌, ◌⊎◌, ℕ, ◌≤◌, List, ◌∷◌, Some, None}
use Rattle.lr_names.specs.Owner.{ThreadOfClient}
use Rattle.lr_objects.specs.Op.{queue_owner}
use Rattle.lr_objects.specs.declared.op.Op.{Op}
use Rattle.lr_model.specs.declared.hold.Hold.{Hold}
use Rattle.lr_model.specs.Fair.{FairPlace, FairLock, place_of, live_places}
use Rattle.lr_model.specs.Hold.{live_hold}

-- the owner holds the lock at a moment
pub record IsHolder (moment : ℕ) (owner : ThreadOfClient) (lock : FairLock) : Type 0 where
  pub hold : Hold
  pub live : live_hold moment lock.held ≡ Some hold
  pub mine : hold.owner ≡ owner

-- nobody holds it, and of the places that aren't stale the first is the owner's, if there is one
pub record IsNext (moment : ℕ) (owner : ThreadOfClient) (lock : FairLock) : Type 0 where
  pub free : live_hold moment lock.held ≡ None
  pub first : (place : FairPlace) (rest : List FairPlace)
      → live_places moment lock.queue ≡ place ∷ rest → place.owner ≡ owner

-- it is the owner's turn to be granted the lock
abbrev pub HasTurn : ℕ → ThreadOfClient → FairLock → Type 0
HasTurn moment owner lock = IsHolder moment owner lock ⊎ IsNext moment owner lock

-- a call of the owner on the fair lock of this name
pub record IsFairCallOf (name : List ℕ) (owner : ThreadOfClient) (op : Op) : Type 0 where
  pub on_it : op.name ≡ name
  pub by_owner : queue_owner op ≡ Some owner

-- the owner has a place in the queue that isn't stale before this moment
pub record HasPlaceUntil (owner : ThreadOfClient) (moment : ℕ) (lock : FairLock) : Type 0 where
  pub place : FairPlace
  pub found : place_of owner lock.queue ≡ Some place
  pub mine : place.owner ≡ owner
  pub lasts : moment ≤ place.stale
