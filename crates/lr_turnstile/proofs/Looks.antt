-- Several looks in a row.
use Rattle.std.proofs.Common.{◌≡◌, ◌≤◌}
use Rattle.lr_turnstile.specs.declared.view.View.{View}
use Rattle.lr_turnstile.specs.Views.{Grew, IsSame}

-- a pass after any number of looks
pub record HasLookedOn (before now : View) : Type 0 where
  pub same : IsSame before now
  pub mine : now.mine ≡ before.mine
  pub turn : now.has_turn ≡ before.has_turn
  pub looks : before.looks ≤ now.looks
  pub grew : Grew before now.seen
