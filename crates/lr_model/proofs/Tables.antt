-- Tables that have the same at each key are one.
use Rattle.std.proofs.Common.{◌≡◌}

pub one_table : {K V : Type 0} (f g : K → V) → ((q : K) → f q ≡ g q) → f ≡ g
one_table f g h = λ i q. h q i
