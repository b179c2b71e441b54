-- Places in a list as signed numbers: from 0 at the front, and from -1 at the end (Redis command
-- pages LINDEX and LRANGE).
use Rattle.std.specs.Prelude.{ℕ, ◌+◌, ◌-◌, ℤ, pos, negsuc, List, Option, Some, None, length, take, drop, reverse, slice_get, nat_lt, if◌then◌else◌}

-- what stands at a place, if anything does: place -1 is the last one
abbrev pub item_at : {X : Type 0} → ℤ → List X → Option X
item_at (pos place) items = slice_get items place
item_at (negsuc back) items = slice_get (reverse items) back

-- the same place counted from the front, if there is one among so many items
abbrev pub place_in : ℤ → ℕ → Option ℕ
place_in (pos place) len = if nat_lt place len then Some place else None
place_in (negsuc back) len = if nat_lt back len then Some (len - (back + 1)) else None

-- how many items stand before the start of a range
abbrev pub before_start : ℤ → ℕ → ℕ
before_start (pos place) len = place
before_start (negsuc back) len = len - (back + 1)

-- how many items stand up to the stop of a range, which belongs to it
abbrev pub up_to_stop : ℤ → ℕ → ℕ
up_to_stop (pos place) len = place + 1
up_to_stop (negsuc back) len = len - back

-- the items from one place to another, both in: what lies past the ends is cut off
abbrev pub range_of : {X : Type 0} → ℤ → ℤ → List X → List X
range_of start stop items =
    drop (before_start start (length items)) (take (up_to_stop stop (length items)) items)
