-- How many frames a stream begins with.
use Rattle.std.specs.Prelude.{◌≡◌, ◌≢◌, ℕ, Bool, true, false, List, ◌++◌, length, map}
use Rattle.std.specs.List.{concat, AllByRecursion}
use Rattle.lr_resp.specs.declared.frame.Frame.{Frame}
use Rattle.lr_resp.specs.declared.decoder.Decoded.{Decoded}
use Rattle.lr_resp.specs.declared.decoder.Decoded.TheVariants as decoded
use Rattle.lr_resp.specs.Spelling.{spelling}
use Rattle.lr_resp.specs.Grammar.{Spells}
use Rattle.lr_resp.specs.Stream.{read, Whole}

-- these bytes are so many frames, within the limits for reading, and this rest
pub record BeginsWith (count : ℕ) (bytes rest : List ℕ) : Type 0 where
  pub frames : List Frame
  pub spelled : AllByRecursion (λ frame. Spells (spelling frame) frame) frames
  pub all : bytes ≡ concat (map spelling frames) ++ rest
  pub counted : count ≡ length frames

-- so many frames, and behind them stands none
abbrev pub HasFrames : List ℕ → ℕ → Type 0
HasFrames bytes count = (rest : List ℕ) × BeginsWith count bytes rest
    × ((frame : Frame) (behind : List ℕ) → read rest ≢ Whole frame behind)

-- whether an answer of a decoder is a frame
abbrev pub came : Decoded → Bool
came (decoded.Frame frame) = true
came decoded.More = false
came (decoded.Broken place cause) = false
