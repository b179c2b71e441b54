use Rattle.std.proofs.Common.{◌≡◌, OnOk, subst, ◌∙◌}
use Rattle.std.specs.Str.{bytes_eq}
use Rattle.indexmap.proofs.CallerLemmas.{insert_entry-new}
use Rattle.indexmap.specs.IndexMap.{insert_entry}
use Rattle.lr_keys.specs.Slots.{new_slot}
use Rattle.lr_keys.proofs.tables.insert_slot.Goals as goal

pub returns-clause-entries : goal.returns-clause-entries
returns-clause-entries c =
    subst (λ r. OnOk r (c.insert.new.self.entries
    ≡ insert_entry bytes_eq c.args.slots.now.entries c.args.key.now (new_slot c.args.value)))
    c.unwrap.ensures c.insert.ensures.entries
    ∙ insert_entry-new bytes_eq c.args.slots.now c.args.key.now (new_slot c.args.value)
    c.requires.absent
