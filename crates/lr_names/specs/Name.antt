-- Names of objects: this project's own rule.
use Rattle.std.specs.Prelude.{ℕ, ◌≤◌, List, length, Bool, IsTrue, ◌||◌, ◌&&◌, ◌==◌, nat_le}
use Rattle.std.specs.List.{list_all}
use Rattle.lr_limits.specs.Limits.{name_limit}

-- a letter, a digit, `_`, `.` or `-`
abbrev pub is_name_byte : ℕ → Bool
is_name_byte b =
    (nat_le 97 b && nat_le b 122) || (nat_le 65 b && nat_le b 90) || (nat_le 48 b && nat_le b 57)
    || (b == 95) || (b == 46) || (b == 45)

-- 1 to 64 of these bytes
pub record IsName (text : List ℕ) : Type 0 where
  pub some : 1 ≤ length text
  pub short : length text ≤ name_limit
  pub bytes : IsTrue (list_all is_name_byte text)
