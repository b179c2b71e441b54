-- How the segments of a history hold its entries: this project's own.
use Rattle.std.specs.Prelude.{◌≡◌, ℕ, ◌+◌, ◌*◌, ◌-◌, ◌≤◌, List, [], ◌++◌, length, All}
use Rattle.std.specs.List.{flat_map}
use Rattle.lr_model.specs.declared.entry.Entry.{Entry}
use Rattle.lr_history.specs.declared.TheConstants.{SEGMENT_ENTRIES, MOST_SEGMENTS}

-- the entries of the full segments, and behind them those of the last one
abbrev pub entries_of : List (List Entry) → List Entry → List Entry
entries_of full last = flat_map (λ segment. segment) full ++ last

-- the room that is left in the last segment, and that of the segments that stand ready
abbrev pub spare_of : List Entry → ℕ → ℕ
spare_of last ready = (SEGMENT_ENTRIES - length last) + SEGMENT_ENTRIES * ready

-- a segment has all the entries that it has room for
abbrev pub IsFull : List Entry → Type 0
IsFull segment = length segment ≡ SEGMENT_ENTRIES

-- every segment before the last one is full, those that stand ready are empty, and the table has
-- room for them
pub record IsInOrder (full : List (List Entry)) (last : List Entry) (ready : List (List Entry))
    (fulls readies table : ℕ) : Type 0 where
  pub filled : All IsFull full
  pub fits : length last ≤ SEGMENT_ENTRIES
  pub empty : All (λ segment. segment ≡ []) ready
  pub room : fulls + readies ≤ table
  pub bounded : fulls + readies ≤ MOST_SEGMENTS
