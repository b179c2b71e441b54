use Rattle.std.proofs.Common.{◌≡◌, length}
use Rattle.lr_outside.proofs.Writes.{IsPartlyWritten}
use Rattle.lr_outside.proofs.sink.write_whole.Given as goal

abbrev pub invariant-loop-rest : goal.invariant-loop-rest
invariant-loop-rest g l = record {
  part : IsPartlyWritten (g.K.Sink.held l.fn.sink) (g.K.Sink.held l.sink) l.text l.rest;
  counted : g.K.Sink.faults l.sink ≡ g.K.Sink.faults l.fn.sink;
}

abbrev pub decreases-loop-rest : goal.decreases-loop-rest
decreases-loop-rest g l = length l.rest
