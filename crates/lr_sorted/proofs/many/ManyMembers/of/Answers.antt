use Rattle.std.proofs.Common.{◌≤◌, Bool, true, false, cond, take, ap, ◌∙◌, arith}
use Rattle.lr_sorted.specs.Members.{with_score}
use Rattle.lr_sorted.proofs.MemberLaws.{in_order_from, with_score-next}
use Rattle.lr_sorted.proofs.many.ManyMembers.of.Goals as goal

one-at-most : (b : Bool) → cond b 1 0 ≤ 1
one-at-most true = omega arith
one-at-most false = omega arith

pub loop-place-preserved : goal.loop-place-preserved
loop-place-preserved c =
    let members = c.args.members.now in
    let place = c.loop-place.place in
    let m = c.index-members-place.result in
    let is = c.index-members-place.is in
    let used = one-at-most c.put.result in
    record {
      members =
          c.put.ensures.members
          ∙ ap (λ l. with_score m.0 m.1 l) c.loop-place.invariant.members
          ∙ (λ i. with_score (is i).0 (is i).1 (take place members))
          ∙ with_score-next members place m (in_order_from members c.requires.order) c.loop-place-test.true;
      room = omega (arith, c.put.ensures.room, c.loop-place.invariant.room);
    }
