-- What contracts see of a call.
use Rattle.std.specs.Prelude.{ℕ, List}
use Rattle.lr_objects.specs.declared.kinds.Call.{Call}

-- the name of its object, and the call by the kind of that
pub record OpValue : Type 0 where
  pub name : List ℕ
  pub call : Call
