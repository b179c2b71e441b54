use Rattle.std.proofs.Common.{sym, ap, ◌∙◌, length}
use Rattle.lr_sorted.specs.Members.{is_in_order}
use Rattle.lr_sorted.specs.Sorted.{sorted}
use Rattle.lr_sorted.proofs.MemberLaws.{in_order_to}
use Rattle.lr_sorted.proofs.SortedLaws.{sorted-in_order, length-sorted}
use Rattle.lr_sorted.proofs.many.ManyMembers.len.Goals as goal

pub returns-clause-len : goal.returns-clause-len
returns-clause-len c =
    c.len.ensures.len ∙ sym (length-sorted c.self.inside.scores.entries)
    ∙ ap (λ t. length t.members) c.self.view_is

pub returns-clause-order : goal.returns-clause-order
returns-clause-order c =
    let entries = c.self.inside.scores.entries in
    ap (λ t. is_in_order t.members) (sym c.self.view_is)
    ∙ in_order_to (sorted entries) (sorted-in_order entries c.len.ensures.unique)
