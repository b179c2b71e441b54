use Rattle.std.proofs.Common.{length, sym, ap, ◌∙◌}
use Rattle.std.proofs.lemmas.List.{length-map}
use Rattle.lr_keys.specs.FieldOrder.{in_order, pair_of}
use Rattle.lr_keys.proofs.OrderLemmas.{length-in_order}
use Rattle.lr_keys.proofs.field_map.FieldMap.len.Goals as goal

pub returns : goal.returns
returns c =
    let fields = c.self.inside.fields.entries in
    c.len.ensures.len ∙ sym (length-map (in_order fields) pair_of ∙ length-in_order fields)
    ∙ ap (λ t. length t.pairs) c.self.view_is
