-- The writer under an output, the calls that it has had, and the faults that were counted.
use Rattle.std.specs.Prelude.{ℕ}
use Rattle.lr_outside.specs.declared.output_sink.OutputSink.{OutputSink}

module _ {W : Type 0} where
  abbrev pub writer_of : OutputSink W → W
  writer_of s = s.writer.writer

  abbrev pub writer_calls : OutputSink W → ℕ
  writer_calls s = s.writer.calls

  abbrev pub output_faults : OutputSink W → ℕ
  output_faults s = s.faults
