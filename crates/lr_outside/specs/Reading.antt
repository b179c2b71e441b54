-- What a reader of lines is between two calls.
use Rattle.std.specs.Prelude.{ℕ, Bool, List}

-- the bytes that it keeps, and whether it has met a line that is too long
pub record Reading : Type 0 where
  pub kept : List ℕ
  pub stuck : Bool
