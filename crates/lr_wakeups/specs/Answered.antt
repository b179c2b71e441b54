-- A reply stands only for a thread whose call was sent.
use Rattle.std.specs.Prelude.{◌≡◌, ℕ, Bool, true, false, Option, Some, None}
use Rattle.lr_waiting.specs.declared.waiter.Stage.{Stage}
use Rattle.lr_waiting.specs.declared.waiter.Stage.TheVariants.{Asked}
use Rattle.lr_waiting.specs.declared.waiter.Waiter.{Waiter}
use Rattle.lr_waiting.specs.Client.{Client, waiter_in}

abbrev pub is_asked_at : Stage → Bool
is_asked_at (Asked asking) = true
is_asked_at _ = false

abbrev pub asked_with : Option Waiter → Bool
asked_with None = false
asked_with (Some waiter) = is_asked_at waiter.stage

pub record HasReplyIfAsked (client : Client) (thread : ℕ) : Type 0 where
  pub without : asked_with (waiter_in client thread) ≡ false → client.replies thread ≡ None
