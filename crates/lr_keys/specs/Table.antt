-- A table from keys, which are bytes, as a function.
use Rattle.std.specs.Prelude.{◌≡◌, ℕ, List, Option, Bool, None, if◌then◌else◌}
use Rattle.std.specs.Str.{bytes_eq}

-- the table with this at the key, or with nothing there for None
abbrev pub with_key : {X : Type 0} → List ℕ → Option X → (List ℕ → Option X) → List ℕ → Option X
with_key key value table q = if bytes_eq key q then value else table q

-- the table without the key, if that is to go
abbrev pub without_key_if : {X : Type 0} → Bool → List ℕ → (List ℕ → Option X) → List ℕ → Option X
without_key_if gone key table = if gone then with_key key None table else table

-- the new table is the old one with this at the key
abbrev pub WritesKey : {X : Type 0}
    → (List ℕ → Option X) → (List ℕ → Option X) → List ℕ → Option X → Type 0
WritesKey old new key value = (q : List ℕ) → new q ≡ with_key key value old q
