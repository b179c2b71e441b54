-- The calls on one stream, one after the other: pieces that are fed, and frames that are given.
use Rattle.std.specs.Prelude.{◌≡◌, ◌≢◌, ℕ, ◌%◌, ◌^◌, List, [], ◌∷◌, ◌++◌, length, map}
use Rattle.std.specs.List.{concat, AllByRecursion}
use Rattle.lr_resp.specs.declared.frame.Frame.{Frame}
use Rattle.lr_resp.specs.declared.decoder.Decoded.TheVariants as decoded
use Rattle.lr_resp.specs.Spelling.{spelling}
use Rattle.lr_resp.specs.Grammar.{Spells}
use Rattle.lr_resp.specs.Stream.{Stream, read, Whole, begun}
use Rattle.lr_resp.specs.Next.{NextIs}

-- what a call did: the calls that answered that more is wanted, or that the stream is broken, or
-- that there is no memory changed nothing, and aren't told of
pub data Turn : Type 0 where
  -- this piece was fed
  Fed : List ℕ → Turn
  -- this frame was given
  Gave : Frame → Turn

-- all bytes that were fed
abbrev pub fed : List Turn → List ℕ
fed [] = []
fed (Fed piece ∷ turns) = piece ++ fed turns
fed (Gave frame ∷ turns) = fed turns

-- the frames that were given, in order
abbrev pub given : List Turn → List Frame
given [] = []
given (Fed piece ∷ turns) = given turns
given (Gave frame ∷ turns) = frame ∷ given turns

-- from this stream these turns lead to that
abbrev pub Lead : List Turn → Stream → Stream → Type 0
Lead [] old new = new ≡ old
Lead (Fed piece ∷ turns) old new =
    Lead turns (record { past = old.past; unread = old.unread ++ piece }) new
Lead (Gave frame ∷ turns) old new =
    (next : Stream) × NextIs (decoded.Frame frame) old next × Lead turns next new

-- no frame stands next
abbrev pub IsOver : Stream → Type 0
IsOver stream = (frame : Frame) (rest : List ℕ) → read stream.unread ≢ Whole frame rest

-- The frames that were given are spelled by the first bytes that were fed, in order, and the others
-- are unread.
abbrev pub FramesComeInOrder : Type 0
FramesComeInOrder = (turns : List Turn) (stream : Stream) → Lead turns begun stream
    → (fed turns ≡ concat (map spelling (given turns)) ++ stream.unread)
    × AllByRecursion (λ frame. Spells (spelling frame) frame) (given turns)
    × (stream.past ≡ length (concat (map spelling (given turns))) % 2 ^ 64)

-- How the stream was cut, and when frames were asked for, doesn't matter: the same bytes give the
-- same frames, and where none stands next any more the same is left.
abbrev pub PiecesDoNotMatter : Type 0
PiecesDoNotMatter = (turns others : List Turn) (stream other : Stream)
    → Lead turns begun stream → Lead others begun other → fed turns ≡ fed others
    → IsOver stream → IsOver other → (given turns ≡ given others) × (stream ≡ other)
