-- what is let go is counted
use Rattle.std.proofs.Common.{◌≡◌, ◌≤◌, ◌+◌, ◌-◌, ◌^◌, ℕ, List, min, ap, ◌∙◌, arith, length, take, drop, length-drop}
use Rattle.lr_program.specs.Recent.{line_ends, least_kept}
use Rattle.lr_program.proofs.RecentLaws.{IsRecentOf-shorter}
use Rattle.lr_program.proofs.recent_bytes.RecentBytes.make_room.Goals as goal

pub returns-then-len-count-clause-same : goal.returns-then-len-count-clause-same
returns-then-len-count-clause-same c text is =
    let count : ℕ = length c.kept-len.result.now - 16384 in
    let old = c.args.self.now in
    let new = c.drop_front.new.self in
    let bytes : new.bytes ≡ drop count old.bytes =
    c.drop_front.ensures.bytes ∙ ap (λ (l : List ℕ). drop count l) c.pass_over.ensures.bytes in
    let passed : new.passed ≡ min (old.passed + line_ends (take count old.bytes)) (2 ^ 64 - 1) =
    c.drop_front.ensures.passed ∙ c.pass_over.ensures.passed in
    let size = ap length bytes in
    let len = ap length c.kept-len.ensures.bytes in
    let enough : least_kept ≤ length new.bytes = omega (arith, length-drop count old.bytes) in
    IsRecentOf-shorter text old new count bytes passed enough is
