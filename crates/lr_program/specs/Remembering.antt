-- What a remembering source is, and what it remembers.
use Rattle.std.specs.Prelude.{ℕ, List, [], take, Option, Some, None, ⊤}
use Rattle.lr_outside.specs.declared.source.ReadTurn.{ReadTurn}
use Rattle.lr_outside.specs.declared.source.ReadTurn.TheVariants.{Got, End, Failed}
use Rattle.lr_program.specs.declared.remembering_source.RememberingSource.{RememberingSource}
use Rattle.lr_program.specs.Recent.{Recent, IsRecentOf}

module _ {S : Type 0} where
  -- the source under it
  abbrev pub source_of : RememberingSource S → S
  source_of s = s.source

  -- the last bytes, where there was memory for them
  abbrev pub recent_of : RememberingSource S → Option Recent
  recent_of s = s.recent

-- this text is what was read so far, where anything is remembered
abbrev pub Remembers : List ℕ → Option Recent → Type 0
Remembers text None = ⊤
Remembers text (Some recent) = IsRecentOf text recent

-- the bytes that a read gave
abbrev pub bytes_given : List ℕ → ReadTurn → List ℕ
bytes_given buffer (Got n) = take n buffer
bytes_given buffer End = []
bytes_given buffer Failed = []
