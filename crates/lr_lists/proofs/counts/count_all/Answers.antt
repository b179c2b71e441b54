use Rattle.std.proofs.Common.{◌<◌, ◌+◌, [], ◌∷◌, take, length, sym, ap, ◌∙◌, arith}
use Rattle.std.proofs.lemmas.List.{length-take}
use Rattle.lr_lists.specs.Items.{times}
use Rattle.lr_lists.proofs.ItemLaws.{times-take, times_le}
use Rattle.lr_lists.proofs.counts.count_all.Goals as goal

pub count_more-requires-clause-few : goal.count_more-requires-clause-few
count_more-requires-clause-few c =
    let item = c.index.result.now in
    let front = take c.loop-place.place c.args.items.now.items in
    let counted = c.loop-place.invariant.counts.each item in
    let few = times_le item front in
    let short = length-take c.loop-place.place c.args.items.now.items in
    let long = c.args.items.now.ok.0 in
    let small = c.args.items.now.small in
    omega arith

pub loop-place-preserved : goal.loop-place-preserved
loop-place-preserved c =
    let items = c.args.items.now.items in
    let place = c.loop-place.place in
    let long = c.args.items.now.ok.0 in
    let within : place < length items = omega arith in
    record {
      counts = record {
        each = λ q.
            c.count_more.ensures.counts q
            ∙ ap (λ n. n + times q (c.index.result.now ∷ [])) (c.loop-place.invariant.counts.each q)
            ∙ sym (times-take q items place c.index.result.now within (sym c.index.ensures));
      };
      room = omega arith;
    }
