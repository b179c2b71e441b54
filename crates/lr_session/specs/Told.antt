-- What the steps of a session tell, beside what the definitions of waiting say of them.
use Rattle.std.specs.Prelude.{ℕ, ◌≡◌, Option, Some, None}
use Rattle.lr_objects.specs.declared.op.Op.{Op}
use Rattle.lr_waiting.specs.declared.waiter.Phase.{Phase}
use Rattle.lr_waiting.specs.declared.waiter.Stage.{Stage}
use Rattle.lr_waiting.specs.declared.waiter.Stage.TheVariants.{Asked}
use Rattle.lr_waiting.specs.declared.waiter.Waiter.{Waiter}
use Rattle.lr_waiting.specs.Session.{Session}
use Rattle.lr_session.specs.declared.fault.SessionFault.{SessionFault}
use Rattle.lr_session.specs.declared.fault.SessionFault.TheVariants.{NotNow, NoMemory}

-- A step that takes no memory is refused exactly where its row gives no session, and tells the phase
-- that was found.
pub record IsNotNow (row : Option Session) (phase : Phase) (fault : SessionFault) : Type 0 where
  pub none : row ≡ None
  pub found : fault ≡ NotNow phase

-- a step that may take memory is also refused where there is none
abbrev pub IsFault : Option Session → Phase → SessionFault → Type 0
IsFault None phase fault = fault ≡ NotNow phase
IsFault (Some session) phase fault = fault ≡ NoMemory

-- the call that a request has sent
abbrev pub op_at : Stage → Option Op
op_at (Asked asking) = Some asking.op
op_at _ = None

abbrev pub op_with : Option Waiter → Option Op
op_with None = None
op_with (Some waiter) = op_at waiter.stage

-- the call that a thread has sent
abbrev pub op_noted : ℕ → Session → Option Op
op_noted thread session = op_with (session.waiters thread)
