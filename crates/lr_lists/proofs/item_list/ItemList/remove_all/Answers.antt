use Rattle.std.proofs.Common.{◌≡◌, ◌≤◌, ℕ, Bool, true, false, cond, length, sym, ap, ◌∙◌, refl, arith}
use Rattle.std.specs.Prelude.{Option, None}
use Rattle.std.specs.Option.{unwrap_or}
use Rattle.std.specs.Str.{bytes_eq}
use Rattle.indexmap.specs.IndexMap.{get}
use Rattle.lr_lists.specs.Counts.{count_in, IsCountOf}
use Rattle.lr_lists.specs.declared.counts.TheConstants.{FEW_ITEMS}
use Rattle.lr_lists.specs.Items.{times}
use Rattle.lr_lists.proofs.ItemLaws.{times-without_item, without_item-absent, length-without_item}
use Rattle.lr_lists.proofs.item_list.ItemList.remove_all.Goals as goal
use Rattle.lr_lists.proofs.item_list.ItemList.remove_all.Goals.{in-Some, in_default}

unwrap_or-cond : (b : Bool) (o : Option ℕ) → unwrap_or (cond b None o) 0 ≡ cond b 0 (unwrap_or o 0)
unwrap_or-cond true o = refl
unwrap_or-cond false o = refl

pub returns-then-count-eq0-clause-items : goal.returns-then-count-eq0-clause-items
returns-then-count-eq0-clause-items c =
    let none : times c.args.item.now c.args.self.now.items ≡ 0 = omega arith in
    sym (without_item-absent c.args.item.now c.args.self.now.items none)

pub invariant_of-self : goal.invariant_of-self
invariant_of-self c =
    let item = c.args.item.now in
    let items = c.self.inside.items.items in
    elim c.match-self.branch [
      | in-Some w ↦
          let counted = rw w.in-Some.is at c.self.invariant.many in
          let fewer : IsCountOf c.take_out.new.items.items w.swap_remove.new.self = record {
            each = λ q.
                ap (λ o. unwrap_or o 0) (w.swap_remove.ensures.updates.0 q)
                ∙ unwrap_or-cond (bytes_eq item q) (get bytes_eq w.deref_mut.result.now q)
                ∙ ap (λ m. cond (bytes_eq item q) 0 (count_in m q)) w.deref_mut.ensures.value
                ∙ ap (λ n. cond (bytes_eq item q) 0 n) (counted.each q)
                ∙ sym (ap (times q) c.take_out.ensures.items ∙ times-without_item item q items);
          } in
          rw w.self-inside-is (record { many = fewer; few = tt })
      | in_default w ↦
          let short = length-without_item item items in
          let long = c.self.inside.items.ok.0 in
          let new = c.take_out.new.items.ok.0 in
          let len = ap length c.take_out.ensures.items in
          let was = rw w.in_default.is at c.self.invariant.few in
          let few : c.take_out.new.items.len ≤ FEW_ITEMS = omega arith in
          rw (w.self-inside-is, w.in_default.is) (record { many = tt; few = few })
    ]

pub returns-clause-room : goal.returns-clause-room
returns-clause-room c =
    let short = length-without_item c.args.item.now c.self.inside.items.items in
    let long = c.self.inside.items.ok.0 in
    let new = c.take_out.new.items.ok.0 in
    let len = ap length c.take_out.ensures.items in
    elim c.match-self.branch [
      | in-Some w ↦
          rw (w.self-inside-is, ← c.self.view_is, w.in-Some.is) (grind (arith, w.deref_mut.ensures.value, w.swap_remove.ensures.room, c.take_out.ensures.capacity))
      | in_default w ↦
          rw (w.self-inside-is, ← c.self.view_is, w.in_default.is) (grind (arith, c.take_out.ensures.capacity))
    ]
