use Rattle.std.proofs.Common.{◌≡◌, ◌≤◌, ◌+◌, [], ◌∷◌, ◌++◌, sym, ap, ◌∙◌, arith, rules}
use Rattle.lr_lists.specs.Counts.{count_in, IsCountOf}
use Rattle.lr_lists.specs.Items.{times}
use Rattle.lr_lists.specs.declared.counts.TheConstants.{FEW_ITEMS}
use Rattle.lr_lists.proofs.ItemLaws.{times-append, times_le}
use Rattle.lr_lists.proofs.item_list.ItemList.push.Goals as goal
use Rattle.lr_lists.proofs.item_list.ItemList.push.Goals.{in-Some, in_default}

pub count_more-requires-clause-few : goal.count_more-requires-clause-few
count_more-requires-clause-few c =
    let item = c.args.item.now in
    let counted = rw c.in-Some.is at c.self.invariant.many in
    let e = counted.each item in
    let few = times_le item c.self.inside.items.items in
    let long = c.self.inside.items.ok.0 in
    let small = c.self.inside.items.small in
    rw c.deref_mut.ensures.value (omega arith)

pub invariant_of-self : goal.invariant_of-self
invariant_of-self c =
    let item = c.args.item.now in
    let items = c.self.inside.items.items in
    elim c.match-self.branch [
      | in-Some w ↦
          let same = ap (λ s. s.items.items) w.self-inside-is in
          let pushed : c.push_back.new.self.items ≡ items ++ item ∷ [] = search rules in
          let counted = rw w.in-Some.is at c.self.invariant.many in
          let more : IsCountOf c.push_back.new.self.items w.count_more.new.counts = record {
            each = λ q.
                w.count_more.ensures.counts q
                ∙ ap (λ m. count_in m q + times q (item ∷ [])) w.deref_mut.ensures.value
                ∙ ap (λ n. n + times q (item ∷ [])) (counted.each q)
                ∙ sym (ap (times q) pushed ∙ times-append q items (item ∷ []));
          } in
          rw (ap (λ s. s.counts) w.self-inside-is) (record { many = more; few = tt })
      | in_default w ↦
          let none = ap (λ s. s.counts) w.self-inside-is ∙ w.in_default.is in
          let room = rw (← c.self.view_is, w.in_default.is) at c.requires in
          let same = ap (λ s. s.items.len) w.self-inside-is in
          let longer : c.push_back.new.self.len ≡ c.match-self.self-inside.items.len + 1 = search rules in
          let few : c.push_back.new.self.len ≤ FEW_ITEMS = omega arith in
          rw none (record { many = tt; few = few })
    ]
