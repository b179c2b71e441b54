-- The two keys that hold the queue of a fair lock, after Redisson's "redisson_lock_queue" and
-- "redisson_lock_timeout": a list of the owners' texts in the order of their places, and a sorted set
-- from each text to the moment from which on the place is stale.
use Rattle.std.specs.Prelude.{◌≡◌, ◌≤◌, ℕ, List, [], ◌∷◌, length, map, Option, Some, None}
use Rattle.std.specs.List.{AllByRecursion}
use Rattle.lr_limits.specs.Limits.{member_limit}
use Rattle.lr_names.specs.Owner.{ThreadOfClient, IsOwner, owner_text}
use Rattle.lr_sorted.specs.Members.{Members as Scores}
use Rattle.lr_sorted.specs.Sorted.{AreDistinct, sorted}
use Rattle.lr_keys.specs.KeySpace.{KeyEntry, Items, Members, entry_with_value}
use Rattle.lr_model.specs.Fair.{FairPlace}

-- the text of a place is its owner's
abbrev pub text_of : FairPlace → List ℕ
text_of place = owner_text place.owner

-- the texts in the order of the places
abbrev pub texts_of : List FairPlace → List (List ℕ)
texts_of queue = map text_of queue

-- each text with the stale moment
abbrev pub stales_of : List FairPlace → Scores
stales_of queue = map (λ place. (text_of place, place.stale)) queue

-- the entries of these items and these members: neither expires, and each is there as long as it has
-- one
abbrev pub items_entry : List (List ℕ) → Option KeyEntry
items_entry items = entry_with_value (Items items) None

abbrev pub members_entry : Scores → Option KeyEntry
members_entry members = entry_with_value (Members members) None

-- places as keys can have them: of owners that differ, 65,536 at most
pub record ArePlaces (queue : List FairPlace) : Type 0 where
  pub owners : AllByRecursion (λ place. IsOwner place.owner) queue
  pub apart : AreDistinct (stales_of queue)
  pub few : length queue ≤ member_limit

-- two keys with these entries hold this queue
pub record IsQueueAt (items stales : Option KeyEntry) (queue : List FairPlace) : Type 0 where
  pub items_are : items ≡ items_entry (texts_of queue)
  pub stales_are : stales ≡ members_entry (sorted (stales_of queue))
  pub are : ArePlaces queue

-- who has the first place
abbrev pub first_owner : List FairPlace → Option ThreadOfClient
first_owner [] = None
first_owner (place ∷ rest) = Some place.owner
