-- Members put in order.
use Rattle.std.specs.Prelude.{◌≡◌, ◌≢◌, ℕ, List, [], ◌∷◌, true, length, slice_get}
use Rattle.std.specs.List.{IsDistinct}
use Rattle.std.specs.Map.{keys_of}
use Rattle.std.specs.Str.{bytes_eq}
use Rattle.lr_sorted.specs.Members.{Members, is_in_order, inserted, score_of, with_score, without_member}

-- members of which none is there twice
abbrev pub AreDistinct : Members → Type 0
AreDistinct members = IsDistinct bytes_eq (keys_of members)

-- these members in order, each put where it belongs
abbrev pub sorted : Members → Members
sorted [] = []
sorted (m ∷ ms) = inserted m (sorted ms)

-- the members of the new table are those of the old one with this score for the member, and only
-- the entry at this place may have changed
pub record IsPut (member : List ℕ) (score place : ℕ) (old new : Members) : Type 0 where
  pub order : is_in_order (sorted old) ≡ true
  pub there : score_of member (sorted old) ≡ score_of member old
  pub sorted : sorted new ≡ with_score member score (sorted old)
  pub others : (k : ℕ) → k ≢ place → slice_get new k ≡ slice_get old k

-- the members of the new table are those of the old one without the member, and only the entries at
-- this place and behind the last may have changed
pub record IsTaken (member : List ℕ) (place : ℕ) (old new : Members) : Type 0 where
  pub order : is_in_order (sorted old) ≡ true
  pub sorted : sorted new ≡ without_member member (sorted old)
  pub others : (k : ℕ) → k ≢ place → k ≢ length new → slice_get new k ≡ slice_get old k
