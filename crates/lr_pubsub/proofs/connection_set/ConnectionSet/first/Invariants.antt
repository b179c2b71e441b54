use Rattle.std.proofs.Common.{◌≡◌, ℕ, ◌*◌, ◌<◌, false}
use Rattle.lr_pubsub.specs.ConnectionSet.{has_number}
use Rattle.lr_pubsub.proofs.connection_set.ConnectionSet.first.Given as goal

abbrev pub invariant-loop-place : goal.invariant-loop-place
invariant-loop-place l = (k : ℕ) → k < 64 * l.place → has_number l.self k ≡ false
