-- What a source in memory is, and what its next read gives.
use Rattle.std.specs.Prelude.{◌≡◌, ℕ, min, List, [], ◌∷◌, ◌++◌, length, drop, Contains}
use Rattle.std.specs.Borrow.{Bor}
use Rattle.lr_outside.specs.Turns.{next_count}
use Rattle.lr_outside.specs.declared.source.ReadTurn.{ReadTurn}
use Rattle.lr_outside.specs.declared.source.ReadTurn.TheVariants.{Got, End, Failed}
use Rattle.lr_outside.specs.declared.mem_source.MemSource.{MemSource}

-- the bytes of these pieces, one after another
abbrev pub all_bytes : List (Bor (List ℕ)) → List ℕ
all_bytes [] = []
all_bytes (piece ∷ pieces) = piece.now ++ all_bytes pieces

-- the bytes that reads have yet to give
abbrev pub unread_bytes : MemSource → List ℕ
unread_bytes s = s.piece.now ++ all_bytes s.later.now

-- this piece and the later ones, without it where it has no byte
abbrev pub with_piece : List ℕ → List (List ℕ) → List (List ℕ)
with_piece [] later = later
with_piece (b ∷ bs) later = (b ∷ bs) ∷ later

-- the pieces that have a byte
abbrev pub pieces_with_bytes : List (Bor (List ℕ)) → List (List ℕ)
pieces_with_bytes [] = []
pieces_with_bytes (piece ∷ pieces) = with_piece piece.now (pieces_with_bytes pieces)

-- the pieces that reads have yet to give, of the first one what is left of it
abbrev pub unread_pieces : MemSource → List (List ℕ)
unread_pieces s = with_piece s.piece.now (pieces_with_bytes s.later.now)

-- how many reads have failed
abbrev pub read_faults : MemSource → ℕ
read_faults s = s.faults

-- how many reads there were
abbrev pub reads_made : MemSource → ℕ
reads_made s = s.calls

-- the numbers of the reads that fail, counted from 1
abbrev pub failing_reads : MemSource → List ℕ
failing_reads s = s.failing.now

-- the next read is one of those
abbrev pub IsNextReadListed : MemSource → Type 0
IsNextReadListed s = Contains (failing_reads s) (next_count (reads_made s))

-- so many bytes are given: all of the first piece, or as many of it as there is room for
abbrev pub GivesFirst : List (List ℕ) → List (List ℕ) → ℕ → ℕ → Type 0
GivesFirst [] new room n = ⊥
GivesFirst (piece ∷ later) new room n =
    (n ≡ min (length piece) room) × (new ≡ with_piece (drop n piece) later)

-- a read gives bytes of the first piece, the end where there is none, and nothing where it failed
abbrev pub GivesPiece : List (List ℕ) → List (List ℕ) → ℕ → ReadTurn → Type 0
GivesPiece old new room (Got n) = GivesFirst old new room n
GivesPiece old new room End = (old ≡ []) × (new ≡ [])
GivesPiece old new room Failed = new ≡ old
