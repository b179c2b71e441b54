use Rattle.std.proofs.Common.{rules}
use Rattle.std.proofs.lemmas.List.Sorted.{answers_always}
use Rattle.lr_sorted.specs.Members.{comes_before}
use Rattle.lr_sorted.proofs.OrderLaws.{before-asym, not_before-trans}
use Rattle.lr_sorted.proofs.SortedLaws.{sort-is}
use Rattle.lr_sorted.proofs.listed.sort.Goals as goal

pub returns : goal.returns
returns c =
    let rises = c.sort_unstable_by.ensures.sorted comes_before
    (record { one_way = before-asym; chain = not_before-trans })
    (answers_always _ _ _ (λ f a r g h. search rules)) in
    sort-is c.args.members.now.items c.sort_unstable_by.new.self.items c.requires
    c.sort_unstable_by.ensures.permutation rises
