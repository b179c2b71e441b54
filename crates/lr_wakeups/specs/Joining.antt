-- Joining exactly while unsubscribed: a thread that is registered waits until its client hears the
-- channel exactly while it doesn't hear it. One that gives its place in a queue up may have joined
-- when it did.
use Rattle.std.specs.Prelude.{◌≡◌, ℕ, Bool, true, false, not, ◌&&◌, Option, Some, None, is_some}
use Rattle.lr_objects.specs.declared.fair.FairCall.{FairCall}
use Rattle.lr_objects.specs.declared.fair.FairCall.TheVariants.{Leave}
use Rattle.lr_objects.specs.declared.kinds.Call.{Call}
use Rattle.lr_objects.specs.declared.kinds.Call.TheVariants.{Fair}
use Rattle.lr_objects.specs.declared.kinds.Function.{Function}
use Rattle.lr_waiting.specs.declared.waiter.Stage.{Stage}
use Rattle.lr_waiting.specs.declared.waiter.Stage.TheVariants.{Fresh, Asked, Leaving}
use Rattle.lr_waiting.specs.declared.waiter.Waiter.{Waiter}
use Rattle.lr_waiting.specs.Client.{Client, waiter_in}
use Rattle.lr_waiting.specs.Latch.{is_subscribed}
use Rattle.lr_waiting.specs.Session.{Session, entry_for, is_joining_at, leaving_function}

-- A request that has just begun isn't registered. One whose call was sent may be. In every other
-- stage it is.
abbrev pub FitsStage : Stage → Bool → Type 0
FitsStage (Fresh turn) registered = registered ≡ false
FitsStage (Asked asking) registered = Unit {0}
FitsStage _ registered = registered ≡ true

-- whether a call gives a place in a queue up
abbrev pub is_fair_leave : FairCall → Bool
is_fair_leave (Leave owner) = true
is_fair_leave _ = false

abbrev pub is_queue_leave : Call → Bool
is_queue_leave (Fair call) = is_fair_leave call
is_queue_leave _ = false

-- Whether a request for a function gives its place up: it is to send that call, or has sent it.
-- Only one for a fair lock does.
abbrev pub gives_up_at : Stage → Function → Bool
gives_up_at (Leaving turn) function = is_some (leaving_function function)
gives_up_at (Asked asking) function =
    is_some (leaving_function function) && is_queue_leave asking.op.call
gives_up_at _ function = false

pub record IsPlaced (session : Session) (thread : ℕ) (waiter : Waiter) : Type 0 where
  pub fits : FitsStage waiter.stage waiter.registered
  pub joining : waiter.registered ≡ true
      → gives_up_at waiter.stage waiter.want.function ≡ false
      → is_joining_at waiter.stage ≡ not (is_subscribed (entry_for session thread waiter))

abbrev pub PlacedWith : Session → ℕ → Option Waiter → Type 0
PlacedWith session thread None = Unit {0}
PlacedWith session thread (Some waiter) = IsPlaced session thread waiter

pub record PlacedIn (client : Client) (thread : ℕ) : Type 0 where
  pub placed : PlacedWith client.session thread (waiter_in client thread)
