use Rattle.std.proofs.Common.{◌≡◌, remove, sym, ◌∙◌, rules}
use Rattle.lr_lists.proofs.ItemLaws.{without_item-once}
use Rattle.lr_lists.proofs.counts.take_one.Goals as goal

pub returns-clause-items : goal.returns-clause-items
returns-clause-items c =
    let items = c.args.items.now.items in
    let within = c.requires.at.within in
    let gone : c.remove-gone.new.self.items ≡ remove items c.args.place = search rules in
    gone ∙ sym (without_item-once c.args.item.now items c.args.place c.requires.at c.requires.once)
