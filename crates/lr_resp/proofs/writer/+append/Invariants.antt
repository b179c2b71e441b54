use Rattle.std.proofs.Common.{◌≡◌, ◌++◌, length, take, map}
use Rattle.std.specs.List.{concat}
use Rattle.lr_resp.specs.Spelling.{spelling}
use Rattle.lr_resp.proofs.writer.+append.Given as goal

abbrev pub decreases-append : goal.decreases-append
decreases-append l = length (spelling l.frame.now)

abbrev pub invariant-loop-item : goal.invariant-loop-item
invariant-loop-item l =
    l.out.items ≡ l.initial.out.items ++ concat (map spelling (take l.item-index l.item-items))
