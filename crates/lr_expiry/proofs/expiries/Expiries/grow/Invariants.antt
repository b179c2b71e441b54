use Rattle.std.proofs.Common.{◌≡◌, ◌++◌, ◌+◌, ◌-◌, take, drop, replicate}
use Rattle.lr_expiry.specs.declared.limits.TheConstants.{NO_EXPIRY}
use Rattle.lr_expiry.proofs.expiries.Expiries.grow.Given as goal

abbrev pub invariant-loop-place : goal.invariant-loop-place
invariant-loop-place l = l.grown ≡ take l.place (drop l.self-inside.places l.self-inside.tree.items) ++ replicate (l.self-inside.places + l.more - l.place) NO_EXPIRY
