-- A field of a hash with its number and its place in the order of making (this project's own).
use Rattle.std.specs.Prelude.{ℕ, ℤ, List}
use Rattle.lr_keys.specs.declared.field_map.Numbered.{Numbered}

-- a field with its number and its place in the order
abbrev pub Field : Type 0
Field = List ℕ × Numbered

-- a field with its number alone
abbrev pub pair_of : Field → List ℕ × ℤ
pair_of f = (f.0, f.1.number)
