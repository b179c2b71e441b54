-- The items of a list (Redis data type "lists").
use Rattle.std.specs.Prelude.{ℕ, ◌+◌, List, [], ◌∷◌, if◌then◌else◌}
use Rattle.std.specs.Str.{bytes_eq}

-- the items in order, and how many more fit without memory
pub record ItemTable : Type 0 where
  pub items : List (List ℕ)
  pub room : ℕ

-- how many items are equal to this one (Redis command page LREM, its reply for count 0)
abbrev pub times : List ℕ → List (List ℕ) → ℕ
times item [] = 0
times item (i ∷ is) = if bytes_eq item i then times item is + 1 else times item is

-- the items without all that are equal to this one (Redis command page LREM, count 0)
abbrev pub without_item : List ℕ → List (List ℕ) → List (List ℕ)
without_item item [] = []
without_item item (i ∷ is) =
    if bytes_eq item i then without_item item is else i ∷ without_item item is
