use Rattle.std.proofs.Common.{◌≡◌, map, subst, ◌∙◌}
use Rattle.std.proofs.lemmas.Result.{IfOk-weaker}
use Rattle.std.specs.List.Sorted.{IsPermutation}
use Rattle.lr_keys.specs.PairOf.{pair_of}
use Rattle.lr_keys.proofs.FieldOrderLemmas.{sorted}
use Rattle.lr_keys.proofs.field_map.FieldMap.to_pairs.Goals as goal

pub returns : goal.returns
returns c =
    let moved = subst (λ fs. IsPermutation fs c.sort.new.fields.items) c.in_ok-fields.ensures
    c.sort.ensures.moved in
    let all = sorted c.self.inside c.args.self.now c.self.invariant c.self.view_is
    c.sort.new.fields.items moved c.sort.ensures.sorted in
    IfOk-weaker c.numbers.result (λ fields. fields.items ≡ map pair_of c.sort.new.fields.items)
    (λ fields. fields.items ≡ c.args.self.now.pairs) (λ fields e. e ∙ all) c.numbers.ensures
