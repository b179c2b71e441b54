use Rattle.std.proofs.Common.{◌≡◌, Some, ap, sym, ◌∙◌, w64, to_z, of_z, rules}
use Rattle.std.specs.Option.{option_map}
use Rattle.lr_keys.proofs.FieldOrderLemmas.{shown}
use Rattle.lr_keys.proofs.field_map.FieldMap.get.Goals as goal

pub returns-in-Some : goal.returns-in-Some
returns-in-Some c =
    let number : to_z w64 (of_z w64 c.number_of.result) ≡ c.number_of.result = search rules in
    ap Some (number ∙ c.number_of.ensures)
    ∙ ap (option_map (λ n. n.number)) c.in-Some.ensures.value
    ∙ sym (shown c.self.inside c.args.self.now c.self.invariant c.self.view_is c.args.field.now)

pub returns-in-None : goal.returns-in-None
returns-in-None c =
    ap (option_map (λ n. n.number)) c.in-None.ensures.value
    ∙ sym (shown c.self.inside c.args.self.now c.self.invariant c.self.view_is c.args.field.now)
