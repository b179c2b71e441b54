-- Bytes kept in place. What stands behind them in the array is zero, so that equal bytes are equal
-- values.
use Rattle.std.specs.Prelude.{◌≡◌, ℕ, ◌-◌, ◌≤◌, List, ◌++◌, length, take, drop, replicate}
use Rattle.std.proofs.Common.{sym, ap, ◌∙◌, take-append-drop, arith}
use Rattle.std.proofs.lemmas.List.{length-take-le}

-- the bytes are the first len of the array, and the rest of it is zero
pub record IsPadded (cap len : ℕ) (bytes : List ℕ) : Type 0 where
  pub whole : length bytes ≡ cap
  pub within : len ≤ cap
  pub zeros : drop len bytes ≡ replicate (cap - len) 0

-- the array for these bytes
abbrev pub padded : ℕ → List ℕ → List ℕ
padded cap text = text ++ replicate (cap - length text) 0

-- the first bytes of a padded array give its length and the array back
pub length-front : (cap len : ℕ) (bytes : List ℕ) → IsPadded cap len bytes
    → length (take len bytes) ≡ len
length-front cap len bytes h = length-take-le len bytes (omega (arith, h.whole, h.within))

pub padded-front : (cap len : ℕ) (bytes : List ℕ) → IsPadded cap len bytes
    → padded cap (take len bytes) ≡ bytes
padded-front cap len bytes h =
    ap (λ n. take len bytes ++ replicate (cap - n) 0) (length-front cap len bytes h)
    ∙ ap (λ (l : List ℕ). take len bytes ++ l) (sym h.zeros) ∙ take-append-drop len bytes
