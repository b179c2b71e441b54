use Rattle.std.proofs.Common.{is_some, ap, sym, ◌∙◌}
use Rattle.std.specs.Str.{bytes_eq}
use Rattle.indexmap.specs.IndexMap.{get}
use Rattle.lr_keys.proofs.FieldOrderLemmas.{is_some-shown, removed, shown}
use Rattle.lr_keys.proofs.field_map.FieldMap.remove.Goals as goal

pub returns-clause-found : goal.returns-clause-found
returns-clause-found c =
    c.is_some.ensures ∙ ap is_some c.swap_remove.ensures.value
    ∙ sym (is_some-shown (λ n. n.number) (get bytes_eq c.self.inside.fields c.args.field.now))
    ∙ sym (ap is_some (shown c.self.inside c.args.self.now c.self.invariant c.self.view_is
    c.args.field.now))

pub returns-clause-pairs : goal.returns-clause-pairs
returns-clause-pairs c =
    removed c.self.inside c.args.self.now c.self.invariant c.self.view_is c.args.field.now
    c.swap_remove.new.self.entries c.swap_remove.ensures.unique c.swap_remove.ensures.updates.0
