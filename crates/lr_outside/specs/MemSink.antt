-- What a sink in memory is, and what its next write does.
use Rattle.std.specs.Prelude.{◌≡◌, ℕ, List, length, Contains, ⊤}
use Rattle.lr_outside.specs.Turns.{next_count}
use Rattle.lr_outside.specs.declared.sink.WriteTurn.{WriteTurn}
use Rattle.lr_outside.specs.declared.sink.WriteTurn.TheVariants.{Took, Failed}
use Rattle.lr_outside.specs.declared.mem_sink.MemSink.{MemSink}

-- the bytes that were written
abbrev pub held_bytes : MemSink → List ℕ
held_bytes s = s.bytes.items

-- how many writes have failed
abbrev pub write_faults : MemSink → ℕ
write_faults s = s.faults

-- how many writes there were
abbrev pub writes_made : MemSink → ℕ
writes_made s = s.calls

-- the numbers of the writes that fail, counted from 1
abbrev pub failing_writes : MemSink → List ℕ
failing_writes s = s.failing.now

-- the next write is one of those
abbrev pub IsNextWriteListed : MemSink → Type 0
IsNextWriteListed s = Contains (failing_writes s) (next_count (writes_made s))

-- a write takes all of its piece
abbrev pub TakesWhole : List ℕ → WriteTurn → Type 0
TakesWhole piece (Took n) = n ≡ length piece
TakesWhole piece Failed = ⊤
