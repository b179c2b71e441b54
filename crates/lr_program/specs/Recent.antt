-- The last bytes that were read of a text, and which lines they are of: this project's own.
use Rattle.std.specs.Prelude.{◌≡◌, ◌⊎◌, ◌==◌, ℕ, ◌-◌, ◌^◌, ◌≤◌, min, List, [], ◌∷◌, ◌++◌, length, count_by}
use Rattle.std.specs.List.{slice_split}

-- how many lines end in these bytes: how often LF, the byte 10, is among them
abbrev pub line_ends : List ℕ → ℕ
line_ends bytes = count_by (λ b. b == 10) bytes

-- what stands between the LFs of a text: its lines, and behind a last LF one empty piece more
abbrev pub pieces_of : List ℕ → List (List ℕ)
pieces_of text = slice_split (λ b. b == 10) text

-- so many bytes are kept, where so many were read
abbrev pub least_kept : ℕ
least_kept = 16384

-- the bytes that are kept, and how many lines ended before them
pub record Recent : Type 0 where
  pub bytes : List ℕ
  pub passed : ℕ

-- These are the last bytes of an LF and then all that was read, so that each line begins behind an
-- LF. All of them are kept, or so many.
pub record IsRecentOf (text : List ℕ) (recent : Recent) : Type 0 where
  pub earlier : List ℕ
  pub split : 10 ∷ text ≡ earlier ++ recent.bytes
  pub count : recent.passed ≡ min (line_ends earlier) (2 ^ 64 - 1)
  pub enough : (earlier ≡ []) ⊎ (least_kept ≤ length recent.bytes)
