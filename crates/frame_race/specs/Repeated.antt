-- Streams of equal frames.
use Rattle.std.specs.Prelude.{◌≡◌, ℕ, List, length, replicate}
use Rattle.std.specs.List.{concat}

-- so many copies of something of so many bytes
pub record IsRepeated (count size : ℕ) (bytes : List ℕ) : Type 0 where
  pub one : List ℕ
  pub has : length one ≡ size
  pub all : bytes ≡ concat (replicate count one)
