-- What one read and one write do to the bytes that a source has left and a sink holds, and to the
-- counts of faults.
use Rattle.std.specs.Prelude.{◌≡◌, Bool, true, false, ℕ, ◌+◌, ◌-◌, ◌^◌, ◌≤◌, min, List, ◌++◌, length, take, Option}
use Rattle.std.specs.Io.KnownBytes.{Keeps, Appends, Consumes, IsAtEnd}
use Rattle.lr_outside.specs.declared.source.ReadTurn.{ReadTurn}
use Rattle.lr_outside.specs.declared.source.ReadTurn.TheVariants.{Got, End, Failed as ReadFailed}
use Rattle.lr_outside.specs.declared.sink.WriteTurn.{WriteTurn}
use Rattle.lr_outside.specs.declared.sink.WriteTurn.TheVariants.{Took, Failed as WriteFailed}

-- A read gives the first bytes of what is left, at the front of the buffer, and takes just these
-- away. The end comes only where nothing is left. It takes nothing, and nor does a read that fails.
abbrev pub ReadsFront : Option (List ℕ) → Option (List ℕ) → List ℕ → ReadTurn → Type 0
ReadsFront old new buffer (Got n) = (1 ≤ n) × (n ≤ length buffer) × Consumes old new (take n buffer)
ReadsFront old new buffer End = Keeps old new × IsAtEnd old
ReadsFront old new buffer ReadFailed = Keeps old new

-- A write appends the first bytes of its piece, as many as it took, and none if it failed.
abbrev pub WritesFront : Option (List ℕ) → Option (List ℕ) → List ℕ → WriteTurn → Type 0
WritesFront old new piece (Took n) = (1 ≤ n) × (n ≤ length piece) × Appends old new (take n piece)
WritesFront old new piece WriteFailed = Keeps old new

-- a front of the text was appended
abbrev pub AppendsFront : Option (List ℕ) → Option (List ℕ) → List ℕ → Type 0
AppendsFront old new text = (front rest : List ℕ) × (text ≡ front ++ rest) × Appends old new front

-- whether a read failed
abbrev pub is_failed_read : ReadTurn → Bool
is_failed_read ReadFailed = true
is_failed_read (Got n) = false
is_failed_read End = false

-- whether a write failed
abbrev pub is_failed_write : WriteTurn → Bool
is_failed_write WriteFailed = true
is_failed_write (Took n) = false

-- a count of 64 bits after one more: at its last value it stays
abbrev pub next_count : ℕ → ℕ
next_count count = min (count + 1) (2 ^ 64 - 1)

-- What a call does to a count of faults, by whether it failed: one that did counts one more, and
-- any other leaves the count as it was.
abbrev pub CountsFaults : ℕ → ℕ → Bool → Type 0
CountsFaults before now true = (before ≤ now) × (now ≡ next_count before)
CountsFaults before now false = now ≡ before

-- A count rose: by one at least, or it stands at the last value of a u64, where a real count stays.
abbrev pub Rose : ℕ → ℕ → Type 0
Rose before now = next_count before ≤ now
