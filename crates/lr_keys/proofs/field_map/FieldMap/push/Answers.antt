use Rattle.std.proofs.Common.{◌≡◌, refl, w64, to_z, of_z, ap, ◌∙◌}
use Rattle.std.proofs.lemmas.Int.{to_z-of_z}
use Rattle.std.proofs.lemmas.Result.{IfOk-at_ok}
use Rattle.std.specs.Str.{bytes_eq}
use Rattle.indexmap.specs.IndexMap.{insert_entry}
use Rattle.lr_keys.specs.FieldMap.{with_field}
use Rattle.lr_keys.specs.declared.field_map.Numbered.{Numbered}
use Rattle.lr_keys.proofs.FieldOrderLemmas.{pushed}
use Rattle.lr_keys.proofs.field_map.FieldMap.push.Goals as goal

pub returns-clause-pairs : goal.returns-clause-pairs
returns-clause-pairs c =
    let own : Numbered = record {
      number = to_z w64 (of_z w64 c.args.number);
      order = c.self.inside.next;
    } in
    pushed c.self.inside c.args.self.now c.self.invariant c.self.view_is c.args.field.now
    c.insert.new.self.entries c.insert.ensures.unique own c.requires.new refl
    (IfOk-at_ok (λ _. c.insert.new.self.entries
    ≡ insert_entry bytes_eq c.self.inside.fields.entries c.args.field.now own)
    c.unwrap.ensures c.insert.ensures.entries)
    ∙ ap (λ n. with_field c.args.field.now n c.args.self.now.pairs)
    (to_z-of_z w64 c.args.number c.ranges.number)
