use Rattle.std.proofs.Common.{◌≡◌, ℕ, ◌+◌, ◌-◌, ◌≤◌, List, Some, false}
use Rattle.lr_limits.specs.Limits.{event_limit}
use Rattle.lr_world.specs.World.{world_of}
use Rattle.lr_play.specs.Progress.{IsAt}
use Rattle.lr_play.proofs.run.run.Given as goal

-- the run is at its line, where source and sink tell their bytes
abbrev pub invariant-loop-status : goal.invariant-loop-status
invariant-loop-status g l = record {
  free : l.reader.stuck ≡ false;
  place : l.number ≡ l.world.applied + 1;
  limit : l.number ≤ event_limit + 1;
  read : g.S.Source.faults l.source ≡ g.S.Source.faults l.fn.source;
  written : g.K.Sink.faults l.sink ≡ g.K.Sink.faults l.fn.sink;
  at : (all before : List ℕ) → g.S.Source.left l.fn.source ≡ Some all → g.K.Sink.held l.fn.sink ≡ Some before → IsAt l.reader.kept (g.S.Source.left l.source) (g.K.Sink.held l.sink) all before l.number (world_of l.world);
}

abbrev pub decreases-loop-status : goal.decreases-loop-status
decreases-loop-status g l = event_limit + 2 - l.number
