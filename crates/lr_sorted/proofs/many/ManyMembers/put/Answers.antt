use Rattle.std.proofs.Common.{◌≡◌, ◌<◌, false, true, None, sym, ap, ◌∙◌, arith}
use Rattle.std.proofs.lemmas.Grind.{common_steps}
use Rattle.std.specs.Prelude.{length}
use Rattle.lr_sorted.specs.Members.{score_of}
use Rattle.lr_sorted.proofs.SortedLaws.{sorted-scores}
use Rattle.lr_sorted.proofs.TournamentLaws.{changed}
use Rattle.lr_sorted.proofs.many.ManyMembers.put.Goals as goal

pub put_score-place-requires : goal.put_score-place-requires
put_score-place-requires c = λ absent.
    let member = c.args.member.now in
    let none : score_of member c.args.self.now.members ≡ None =
    ap (λ t. score_of member t.members) (sym c.self.view_is)
    ∙ sorted-scores c.self.inside.scores.entries member c.len-count.ensures.unique ∙ absent in
    let room = rw (← c.self.view_is) at (c.requires none) in
    omega arith

pub mend-requires-clause-right : goal.mend-requires-clause-right
mend-requires-clause-right c =
    let old = c.self.inside.scores.entries in
    let new = c.put_score-place.new.scores.entries in
    let place = c.put_score-place.result.0 in
    let within : place < length c.self.inside.least.items = grind (arith, common_steps) in
    changed false old new c.self.inside.least.items place place c.self.invariant.least within within
    (λ k apart also. c.put_score-place.ensures.put.others k apart)

pub mend-requires-2-clause-right : goal.mend-requires-2-clause-right
mend-requires-2-clause-right c =
    let old = c.self.inside.scores.entries in
    let new = c.put_score-place.new.scores.entries in
    let place = c.put_score-place.result.0 in
    let within : place < length c.self.inside.greatest.items = grind (arith, common_steps) in
    changed true old new c.self.inside.greatest.items place place c.self.invariant.greatest within within
    (λ k apart also. c.put_score-place.ensures.put.others k apart)
