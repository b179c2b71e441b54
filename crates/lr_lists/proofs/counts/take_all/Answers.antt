use Rattle.std.proofs.Common.{◌∙◌, not, rules}
use Rattle.std.specs.Str.{bytes_eq}
use Rattle.std.proofs.lemmas.Fn.{filter_same}
use Rattle.lr_lists.proofs.ItemLaws.{without_item-filter}
use Rattle.lr_lists.proofs.counts.take_all.Goals as goal

pub returns-clause-items : goal.returns-clause-items
returns-clause-items c =
    filter_same _ (λ other. not (bytes_eq c.args.item.now other)) _
    (λ x b q h. search rules) _ _ c.retain.ensures.filtered
    ∙ without_item-filter c.args.item.now c.args.items.now.items
