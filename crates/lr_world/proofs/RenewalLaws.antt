-- The renewal of a hold that a client has asked for and the server hasn't run, as the call that it
-- is.
use Rattle.std.proofs.Common.{◌≡◌, ℕ, Option, Some, None, refl}
use Rattle.std.specs.Option.{option_map}
use Rattle.lr_objects.specs.declared.op.Op.{Op}
use Rattle.lr_waiting.specs.declared.watch.Renewal.{Renewal}
use Rattle.lr_waiting.specs.declared.watch.WatchKey.{WatchKey}
use Rattle.lr_machine.specs.World.{World, renewal_for, renewing_in}
use Rattle.lr_clients.specs.Rows.{renewal_in}

-- a call that is to be run is that of such a renewal
pub record IsRenewalOf (world : World) (client : ℕ) (key : WatchKey) (op : Op) : Type 0 where
  pub renewal : Renewal
  pub asked : renewing_in world client key ≡ Some renewal
  pub call : op ≡ renewal_for world client key

pub renewal-some : (world : World) (client : ℕ) (key : WatchKey) (op : Op)
    → renewal_in (world.clients client) key ≡ Some op → IsRenewalOf world client key op
renewal-some world client key op is = by (renewing_in world client key) refl is
  where
    made : Op
    made = renewal_for world client key

    by : (asked : Option Renewal) → renewing_in world client key ≡ asked
        → option_map (λ (renewal : Renewal). made) asked ≡ Some op
        → IsRenewalOf world client key op
    by None here is = absurd (cc is)
    by (Some renewal) here is =
        let one : op ≡ made = cc is in
        record { renewal = renewal; asked = here; call = one }

-- and where there is none, none is to be run
pub renewal-none : (world : World) (client : ℕ) (key : WatchKey)
    → renewal_in (world.clients client) key ≡ None → renewing_in world client key ≡ None
renewal-none world client key is = by (renewing_in world client key) is
  where
    by : (asked : Option Renewal)
        → option_map (λ (renewal : Renewal). renewal_for world client key) asked ≡ None
        → asked ≡ None
    by None is = refl
    by (Some renewal) is = absurd (cc is)
