-- A tournament of places: the list of its nodes holds for each who has won there, and node 1 is the
-- final. Below them stand the places, as if they were nodes too.
use Rattle.std.specs.Prelude.{◌≡◌, ◌+◌, ◌-◌, ◌*◌, ◌/◌, ◌<◌, ◌≤◌, ℕ, zero, suc, Bool, false, List, Option, Some, None, length, is_some, nat_lt, slice_get, slice_index, if◌then◌else◌}
use Rattle.lr_sorted.specs.Members.{Scored, Members, comes_before}

-- whether a member wins against another: the one that comes first, or else the one that comes last.
-- Where there is nobody, anybody wins
abbrev pub wins : Bool → Option Scored → Option Scored → Bool
wins last one None = is_some one
wins last None (Some other) = false
wins last (Some one) (Some other) = if last then comes_before other one else comes_before one other

-- who of two places wins
abbrev pub winner : Bool → Members → ℕ → ℕ → ℕ
winner last entries one other =
    if wins last (slice_get entries other) (slice_get entries one) then other else one

-- who has won at a node
abbrev pub won_at : List ℕ → ℕ → ℕ
won_at nodes node =
    if nat_lt node (length nodes) then slice_index nodes node else node - length nodes

-- the winner at a node is the winner of the two below it
abbrev pub IsNode : Bool → Members → List ℕ → ℕ → Type 0
IsNode last entries nodes node =
    slice_index nodes node
    ≡ winner last entries (won_at nodes (2 * node)) (won_at nodes (2 * node + 1))

-- a number halved so many times: the way up from a node
abbrev pub halved : ℕ → ℕ → ℕ
halved zero node = node
halved (suc times) node = halved times (node / 2)

-- a node stands on the way up from another, or is the one
abbrev pub IsOver : ℕ → ℕ → Type 0
IsOver node lower = (times : ℕ) × (halved times lower ≡ node)

-- who has won at each node is one of the places below it
pub record IsSeated (low : ℕ) (nodes : List ℕ) : Type 0 where
  pub within : (node : ℕ) → low ≤ node → node < length nodes → slice_index nodes node < length nodes
  pub below : (node : ℕ) → low ≤ node → node < length nodes
      → IsOver node (length nodes + slice_index nodes node)

-- each node from this one on is right
pub record IsRightFrom (low : ℕ) (last : Bool) (entries : Members) (nodes : List ℕ) : Type 0 where
  pub seated : IsSeated low nodes
  pub node : (node : ℕ) → low ≤ node → node < length nodes → IsNode last entries nodes node

-- so is each node from the final on
abbrev pub IsTournament : Bool → Members → List ℕ → Type 0
IsTournament last entries nodes = IsRightFrom 1 last entries nodes

-- so is each node but for those above these two
pub record IsRightBut (one other : ℕ) (last : Bool) (entries : Members) (nodes : List ℕ)
    : Type 0 where
  pub seated : IsSeated 1 nodes
  pub node : (node : ℕ) → 1 ≤ node → node < length nodes
      → (IsOver node (one / 2) → ⊥) → (IsOver node (other / 2) → ⊥) → IsNode last entries nodes node
