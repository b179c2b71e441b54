-- A stream of frames, and what comes next in it.
use Rattle.std.specs.Prelude.{◌≡◌, ℕ, ◌+◌, ◌≤◌, ◌==◌, if◌then◌else◌, List, [], ◌∷◌, ◌++◌, length}
use Rattle.lr_resp.specs.declared.frame.Frame.{Frame}
use Rattle.lr_resp.specs.declared.cause.Cause.{Cause}
use Rattle.lr_resp.specs.declared.cause.Cause.TheVariants.{TooLong}
use Rattle.lr_resp.specs.Limits.{frame_limit}
use Rattle.lr_resp.specs.Scan.{State, Step, Goes, Ends, Fails, start, scan}
use Rattle.lr_resp.specs.Spelled.{spelled}
use Rattle.lr_resp.specs.Sound.{IsSound}

-- what bytes begin with
pub data Reading : Type 0 where
  -- less than a frame
  Part : Reading
  -- a frame, and the bytes behind it
  Whole : Frame → List ℕ → Reading
  -- no frame: the offset of the first byte that can't stand there, and why
  Broken : ℕ → Cause → Reading

abbrev pub follow : ℕ → List ℕ → (State → Reading) → Step → Reading
follow size rest on (Goes s) = on s
follow size rest on (Ends frame) = Whole frame rest
follow size rest on (Fails cause) = Broken size cause

-- goes on behind so many bytes of a frame
unfoldable pub run : ℕ → ℕ → State → List ℕ → Reading
run most size s [] = Part
run most size s (b ∷ bs) =
    if size == most then Broken size TooLong
    else follow size bs (λ next. run most (size + 1) next bs) (scan s b)

-- what bytes begin with, where a frame has at most so many bytes
abbrev pub read_within : ℕ → List ℕ → Reading
read_within most bytes = run most 0 start bytes

abbrev pub read : List ℕ → Reading
read bytes = read_within frame_limit bytes

pub record Stream : Type 0 where
  -- how many bytes the frames had that were read, modulo 2 ^ 64
  pub past : ℕ
  -- the bytes behind them
  pub unread : List ℕ

abbrev pub begun : Stream
begun = record { past = 0; unread = [] }

-- reading its bytes leads to this state
pub record IsReached (size : ℕ) (s : State) : Type 0 where
  pub good : IsSound s
  pub counted : size ≡ length (spelled s)
  pub bound : size ≤ frame_limit
  pub reach : (rest : List ℕ) → read (spelled s ++ rest) ≡ run frame_limit size s rest
