-- A tree in a list: the moments of the places are its second half, and each node of the first half
-- is the lesser of its two children.
use Rattle.std.specs.Prelude.{◌≡◌, ◌≢◌, ◌<◌, ◌≤◌, ◌+◌, ◌*◌, ◌++◌, ℕ, List, length, min, replicate, slice_index}
use Rattle.lr_expiry.specs.declared.limits.TheConstants.{NO_EXPIRY}

-- a node is the lesser of its children
abbrev pub IsNode : List ℕ → ℕ → Type 0
IsNode tree k = slice_index tree k ≡ min (slice_index tree (2 * k)) (slice_index tree (2 * k + 1))

-- so is each node of the first half, but for one that may be stale
pub record IsTreeBut (stale places : ℕ) (tree : List ℕ) : Type 0 where
  pub len : length tree ≡ 2 * places
  pub node : (k : ℕ) → 1 ≤ k → k < places → k ≢ stale → IsNode tree k

-- so is each of them: no node is numbered 0
abbrev pub IsTree : ℕ → List ℕ → Type 0
IsTree places tree = IsTreeBut 0 places tree

-- there are more places behind the old ones, or as many, and the new ones never expire
abbrev pub IsLonger : List ℕ → List ℕ → Type 0
IsLonger old new = (more : ℕ) × (new ≡ old ++ replicate more NO_EXPIRY)
