use Rattle.std.proofs.Common.{sym, ◌∙◌}
use Rattle.lr_sorted.proofs.PlaceLaws.{found_at, not_before-more}
use Rattle.lr_sorted.proofs.few.place_of.Goals as goal

pub returns-then-eq-clause-some : goal.returns-then-eq-clause-some
returns-then-eq-clause-some c =
    found_at c.args.member.now c.args.members.now c.loop-place.place c.index-members-place.result
    c.loop-place.invariant c.loop-place-test.true c.index-members-place.is (sym c.eq.ensures ∙ c.if-eq.true)

pub loop-place-preserved : goal.loop-place-preserved
loop-place-preserved c =
    not_before-more c.args.member.now c.args.members.now c.loop-place.place c.index-members-place.result
    c.loop-place.invariant c.loop-place-test.true c.index-members-place.is (sym c.eq.ensures ∙ c.if-eq.false)
