-- How often each item is there, by a table of counts.
use Rattle.std.specs.Prelude.{◌≡◌, ◌<◌, ℕ, true, List, length, slice_index_or}
use Rattle.std.specs.Str.{bytes_eq}
use Rattle.std.specs.Map.{count_at}
use Rattle.indexmap.specs.IndexMap.{IndexMap, get}
use Rattle.lr_lists.specs.Items.{times}

-- how often an item is there, by the table: 0 where it isn't in the table
abbrev pub count_in : {S : Type 0} → IndexMap (List ℕ) ℕ S → List ℕ → ℕ
count_in counts item = count_at (get bytes_eq counts) item

-- the table has the count of each item
pub record IsCountOf {S : Type 0} (items : List (List ℕ)) (counts : IndexMap (List ℕ) ℕ S)
    : Type 0 where
  pub each : (q : List ℕ) → count_in counts q ≡ times q items

-- an item that is equal to this one stands at the place
pub record IsAt (item : List ℕ) (items : List (List ℕ)) (place : ℕ) : Type 0 where
  pub within : place < length items
  pub same : (d : List ℕ) → bytes_eq item (slice_index_or items place d) ≡ true
