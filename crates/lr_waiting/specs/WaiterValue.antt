-- What contracts see of a thread's request.
use Rattle.std.specs.Prelude.{Bool}
use Rattle.lr_objects.specs.declared.want.Mode.{Mode}
use Rattle.lr_objects.specs.declared.want.Want.{Want}
use Rattle.lr_waiting.specs.declared.waiter.Stage.{Stage}

-- how long it may wait, what it wants, how far it has come, and whether it counts among those that
-- wait on its channel
pub record WaiterValue : Type 0 where
  pub mode : Mode
  pub want : Want
  pub stage : Stage
  pub registered : Bool
