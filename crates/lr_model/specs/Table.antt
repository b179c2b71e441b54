-- Tables: what stands at each key.
use Rattle.std.specs.Prelude.{Bool, if◌then◌else◌}

-- the table with v at the key k, and all else as it was
abbrev pub put : {K V : Type 0} → (K → K → Bool) → (K → V) → K → V → K → V
put same table k v q = if same k q then v else table q
