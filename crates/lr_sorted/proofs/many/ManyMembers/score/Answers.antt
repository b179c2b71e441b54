use Rattle.std.proofs.Common.{sym, ap, ◌∙◌}
use Rattle.lr_sorted.specs.Members.{is_in_order, score_of}
use Rattle.lr_sorted.specs.Sorted.{sorted}
use Rattle.lr_sorted.proofs.MemberLaws.{in_order_to}
use Rattle.lr_sorted.proofs.SortedLaws.{sorted-in_order, sorted-scores}
use Rattle.lr_sorted.proofs.many.ManyMembers.score.Goals as goal

pub returns-clause-score : goal.returns-clause-score
returns-clause-score c =
    c.copied.ensures ∙ c.get.ensures.value
    ∙ sym (sorted-scores c.self.inside.scores.entries c.args.member.now c.len-count.ensures.unique)
    ∙ ap (λ t. score_of c.args.member.now t.members) c.self.view_is

pub returns-clause-order : goal.returns-clause-order
returns-clause-order c =
    let entries = c.self.inside.scores.entries in
    ap (λ t. is_in_order t.members) (sym c.self.view_is)
    ∙ in_order_to (sorted entries) (sorted-in_order entries c.len-count.ensures.unique)
