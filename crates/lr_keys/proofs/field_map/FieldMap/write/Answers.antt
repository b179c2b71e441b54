use Rattle.std.proofs.Common.{◌≡◌, Some, is_some, refl, sym, ap, ◌∙◌, w64, to_z, of_z}
use Rattle.std.proofs.lemmas.Int.{to_z-of_z}
use Rattle.std.specs.Option.{option_copied_mut}
use Rattle.std.specs.Str.{bytes_eq}
use Rattle.indexmap.specs.IndexMap.{get}
use Rattle.lr_keys.specs.FieldMap.{with_field}
use Rattle.lr_keys.specs.declared.field_map.Numbered.{Numbered}
use Rattle.lr_keys.proofs.FieldOrderLemmas.{is_some-shown, shown, written}
use Rattle.lr_keys.proofs.SlotLemmas.{IsSome-lent, sets_written}
use Rattle.lr_keys.proofs.field_map.FieldMap.write.Goals as goal

pub unwrap-own-requires : goal.unwrap-own-requires
unwrap-own-requires c =
    let own = get bytes_eq c.self.inside.fields c.args.field.now in
    IsSome-lent c.get_mut.result own c.get_mut.ensures.value
    (sym (is_some-shown (λ n. n.number) own)
    ∙ sym (ap is_some (shown c.self.inside c.args.self.now c.self.invariant c.self.view_is
    c.args.field.now)) ∙ c.requires)

pub returns-clause-pairs : goal.returns-clause-pairs
returns-clause-pairs c =
    let own = c.unwrap-own.result.now in
    let w : Numbered = record {
      number = to_z w64 (of_z w64 c.args.number);
      order = own.order;
    } in
    let found : Some own ≡ get bytes_eq c.self.inside.fields c.args.field.now =
    sym (ap option_copied_mut c.unwrap-own.ensures) ∙ c.get_mut.ensures.value in
    let writes = c.get_mut.follows.holds w in
    written c.self.inside c.args.self.now c.self.invariant c.self.view_is c.args.field.now
    (c.get_mut.follows.lender w).entries writes.4 own w (sym found) refl
    (sets_written c.self.inside.fields (c.get_mut.follows.lender w) c.args.field.now own w found
    writes)
    ∙ ap (λ n. with_field c.args.field.now n c.args.self.now.pairs)
    (to_z-of_z w64 c.args.number c.ranges.number)
