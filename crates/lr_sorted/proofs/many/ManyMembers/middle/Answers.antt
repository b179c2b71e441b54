use Rattle.std.proofs.Common.{length, ap, ◌∙◌, arith}
use Rattle.std.specs.Prelude.{slice_get}
use Rattle.lr_sorted.proofs.SortedLaws.{length-sorted}
use Rattle.lr_sorted.proofs.many.ManyMembers.middle.Goals as goal

pub nth-requires : goal.nth-requires
nth-requires c =
    let long = length-sorted c.self.inside.scores.entries in
    let same = ap (λ t. length t.members) c.self.view_is in
    omega arith

pub returns : goal.returns
returns c =
    c.entry.ensures.entry ∙ c.nth.ensures
    ∙ ap (λ t. slice_get t.members c.args.place) c.self.view_is
