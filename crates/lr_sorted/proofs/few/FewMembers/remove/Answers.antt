use Rattle.std.proofs.Common.{◌≡◌, sym, ap, ◌∙◌, arith, remove}
use Rattle.lr_sorted.specs.Members.{score_of, without_member, is_in_order}
use Rattle.lr_sorted.proofs.MemberLaws.{in_order_from, in_order_to, in_order-without, without_member-absent}
use Rattle.lr_sorted.proofs.few.FewMembers.remove.Goals as goal

pub returns-in_default-clause-members : goal.returns-in_default-clause-members
returns-in_default-clause-members c =
    sym (without_member-absent c.args.member.now c.args.self.now.members
    (ap (score_of c.args.member.now) (ap (λ t. t.members) (sym c.self.view_is) ∙ sym c.as_slice.ensures.value)
    ∙ c.in_default.ensures.none))

pub invariant_of-self : goal.invariant_of-self
invariant_of-self c =
    let members = c.self.inside.members.items in
    let gone : c.remove.new.self.items ≡ without_member c.args.member.now members =
    c.remove.ensures.items
    ∙ ap (λ l. remove l c.in-Some.place) (sym c.as_slice.ensures.value)
    ∙ sym c.in-Some.ensures.some.without
    ∙ ap (without_member c.args.member.now) c.as_slice.ensures.value in
    record {
      order = ap is_in_order gone ∙ in_order_to (without_member c.args.member.now members)
          (in_order-without c.args.member.now members (in_order_from members c.self.invariant.order));
      few = grind (arith, c.remove.ensures.len, c.self.invariant.few);
    }
