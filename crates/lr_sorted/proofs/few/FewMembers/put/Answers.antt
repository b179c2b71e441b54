use Rattle.std.proofs.Common.{ap, ◌∙◌}
use Rattle.lr_sorted.specs.Members.{score_of}
use Rattle.lr_sorted.proofs.MemberLaws.{in_order_from, without-absent}
use Rattle.lr_sorted.proofs.few.FewMembers.put.Goals as goal

pub insert-requires-clause-absent : goal.insert-requires-clause-absent
insert-requires-clause-absent c =
    let member = c.args.member.now in
    ap (score_of member) c.remove-was.ensures.members
    ∙ without-absent member c.args.self.now.members (in_order_from c.args.self.now.members c.remove-was.ensures.order)
