-- what was taken up of the piece
use Rattle.std.proofs.Common.{◌≡◌, ℕ, List, ◌++◌, length}
use Rattle.lr_program.specs.Recent.{IsRecentOf}
use Rattle.lr_program.proofs.recent_bytes.RecentBytes.remember.Given as goal

abbrev pub invariant-loop-rest : goal.invariant-loop-rest
invariant-loop-rest l =
    (front : List ℕ) × (l.piece ≡ front ++ l.rest)
    × ((text : List ℕ) → IsRecentOf text l.initial.self → IsRecentOf (text ++ front) l.self)

abbrev pub decreases-loop-rest : goal.decreases-loop-rest
decreases-loop-rest l = length l.rest
