use Rattle.std.proofs.Common.{◌≡◌, sym, ap, ◌∙◌, rules, arith, insert}
use Rattle.lr_sorted.specs.Members.{inserted, is_in_order}
use Rattle.lr_sorted.proofs.MemberLaws.{in_order_from, in_order_to, in_order-inserted}
use Rattle.lr_sorted.proofs.few.FewMembers.insert.Goals as goal

pub invariant_of-self : goal.invariant_of-self
invariant_of-self c =
    let members = c.self.inside.members.items in
    let absent = rw (← c.self.view_is) at c.requires.absent in
    let room = rw (← c.self.view_is) at c.requires.room in
    let place = c.place_for-place.result in
    let items : c.insert.new.self.items ≡ insert members place c.args.new = search rules in
    let put : c.insert.new.self.items ≡ inserted c.args.new members =
    items
    ∙ ap (λ l. insert l place c.args.new) (sym c.as_slice.ensures.value)
    ∙ c.place_for-place.ensures.inserted
    ∙ ap (inserted c.args.new) c.as_slice.ensures.value in
    record {
      order = ap is_in_order put ∙ in_order_to (inserted c.args.new members)
          (in_order-inserted c.args.new members (in_order_from members c.self.invariant.order) absent);
      few = grind (arith, c.insert.ensures.len, c.unwrap.ensures);
    }
