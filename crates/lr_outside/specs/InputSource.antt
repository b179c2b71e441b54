-- The reader under an input, the calls that it has had, and the faults that were counted.
use Rattle.std.specs.Prelude.{ℕ}
use Rattle.lr_outside.specs.declared.input_source.InputSource.{InputSource}

module _ {R : Type 0} where
  abbrev pub reader_of : InputSource R → R
  reader_of s = s.reader.reader

  abbrev pub reader_calls : InputSource R → ℕ
  reader_calls s = s.reader.calls

  abbrev pub input_faults : InputSource R → ℕ
  input_faults s = s.faults
