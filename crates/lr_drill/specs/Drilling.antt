-- What a run of a drill has come to.
use Rattle.lr_world.specs.World.{world_of}
use Rattle.lr_drill.specs.declared.drilled.Drill.{Drill}
use Rattle.lr_drill.specs.Drill.{Drilled}

-- its number, its world, and how many events didn't apply
abbrev pub drilled_of : Drill → Drilled
drilled_of drill = record {
  number = drill.number;
  world = world_of drill.world;
  not_applied = drill.not_applied;
}
