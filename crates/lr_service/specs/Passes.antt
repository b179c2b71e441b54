-- What contracts say of a pass of a service.
use Rattle.std.specs.Prelude.{◌≡◌, ◌≢◌, ◌⊎◌, ℕ, IsTrue}
use Rattle.lr_turnstile.specs.declared.pass.Pass.{Pass}
use Rattle.lr_turnstile.specs.declared.view.View.{View}
use Rattle.lr_turnstile.specs.Passes.{IsOf}
use Rattle.lr_service.specs.declared.served.Served.{Served}
use Rattle.lr_service.specs.declared.service.Service.{Service}
use Rattle.lr_service.specs.Closes.{has_open}

-- a pass is one of this service's
abbrev pub IsPassOf : Service → Pass Served → Type 0
IsPassOf service pass = IsOf service.gate pass

-- a connection is the pass's own: the pass has opened it, and not closed it since
abbrev pub IsOwnConnection : View → ℕ → Type 0
IsOwnConnection view conn = IsTrue (has_open conn view.mine)

-- a pass can call on connection 0, and on its own ones
abbrev pub CanUse : View → ℕ → Type 0
CanUse view conn = (conn ≡ 0) ⊎ IsOwnConnection view conn

-- it can close its own ones but connection 0
pub record CanClose (view : View) (conn : ℕ) : Type 0 where
  pub own : IsOwnConnection view conn
  pub not_first : conn ≢ 0

-- its own connections stay its own
abbrev pub KeepsConnections : View → View → Type 0
KeepsConnections before now = (conn : ℕ) → IsOwnConnection before conn → IsOwnConnection now conn
