use Rattle.std.proofs.Common.{◌≡◌}
use Rattle.lr_world.specs.World.{world_with}
use Rattle.lr_world.proofs.CutLaws.{AreCut}
use Rattle.lr_world.proofs.cuts.cut_all.Given as goal

abbrev pub invariant-loop-connection : goal.invariant-loop-connection
invariant-loop-connection l = record {
  last : l.server.last ≡ 128;
  cut : AreCut l.connections
      (world_with l.initial.server.entries l.moment l.initial.clients) l.connection-index
      (world_with l.server.entries l.moment l.clients);
}
