use Rattle.std.proofs.Common.{◌≡◌, false, ◌-◌, suc, length}
use Rattle.lr_limits.specs.Limits.{line_limit}
use Rattle.std.specs.Io.KnownBytes.{Keeps}
use Rattle.lr_outside.specs.Lines.{ahead, IsUndecided}
use Rattle.lr_outside.proofs.line_reader.LineReader.read_on.Given as goal

abbrev pub invariant-loop-self : goal.invariant-loop-self
invariant-loop-self g l = record {
  same : Keeps (ahead l.fn.self.kept (g.S.Source.left l.fn.source)) (ahead l.self.kept (g.S.Source.left l.source));
  undecided : IsUndecided l.self.kept;
  free : l.self.stuck ≡ false;
  counted : g.S.Source.faults l.source ≡ g.S.Source.faults l.fn.source;
}

abbrev pub decreases-loop-self : goal.decreases-loop-self
decreases-loop-self g l = suc line_limit - length l.self.kept
