use Rattle.std.proofs.Common.{◌≡◌, ◌<◌, ◌-◌, length, ap, ◌∙◌, arith}
use Rattle.std.specs.Prelude.{slice_get}
use Rattle.lr_sorted.proofs.SortedLaws.{last-place}
use Rattle.lr_sorted.proofs.many.ManyMembers.at.Goals as goal

pub returns-then-place-end : goal.returns-then-place-end
returns-then-place-end c =
    let members = c.args.self.now.members in
    let some : 0 < length members = omega (arith, c.requires) in
    let place : length members - 1 ≡ c.args.place = omega (arith, c.if-place-end.true, c.len-end.ensures.len) in
    c.last.ensures ∙ last-place members some ∙ ap (λ n. slice_get members n) place
