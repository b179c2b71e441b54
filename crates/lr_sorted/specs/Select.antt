-- Where members of a table, which is in any order, stand among those in order.
use Rattle.std.specs.Prelude.{ℕ, ◌+◌, Bool, true, false, ◌&&◌, [], ◌∷◌, Option, Some, None, length, slice_get, if◌then◌else◌}
use Rattle.lr_sorted.specs.Members.{Scored, Members}
use Rattle.lr_sorted.specs.Tournament.{wins}

-- how many members come before one
abbrev pub rank_of : Option Scored → Members → ℕ
rank_of one [] = 0
rank_of one (m ∷ ms) = if wins false (Some m) one then rank_of one ms + 1 else rank_of one ms

-- how many come before the one at a place of the table
abbrev pub rank_at : Members → ℕ → ℕ
rank_at entries place = rank_of (slice_get entries place) entries

-- whether the one at a place comes behind a bound, as far as there is one
abbrev pub is_behind : Members → Option ℕ → ℕ → Bool
is_behind entries None place = true
is_behind entries (Some low) place = wins false (slice_get entries low) (slice_get entries place)

-- whether it comes before a bound
abbrev pub is_ahead : Members → Option ℕ → ℕ → Bool
is_ahead entries None place = true
is_ahead entries (Some high) place = wins false (slice_get entries place) (slice_get entries high)

-- whether it comes between two bounds
abbrev pub is_between : Members → Option ℕ → Option ℕ → ℕ → Bool
is_between entries low high place = is_behind entries low place && is_ahead entries high place

-- the least rank behind a bound
abbrev pub least_behind : Members → Option ℕ → ℕ
least_behind entries None = 0
least_behind entries (Some low) = rank_at entries low + 1

-- the first rank that isn't before a bound
abbrev pub first_past : Members → Option ℕ → ℕ
first_past entries None = length entries
first_past entries (Some high) = rank_at entries high
