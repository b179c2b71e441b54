use Rattle.std.proofs.Common.{◌+◌, sym, subst, arith}
use Rattle.lr_clients.proofs.Places.{AreFirst, all-first, first-more, first-none}
use Rattle.lr_clients.proofs.clients.ClientTable.new.Goals as goal

pub loop-before-init : goal.loop-before-init
loop-before-init c = record {
  room = c.in_ok-rows.ensures.capacity;
  first = subst (AreFirst 0) (sym c.in_ok-rows.ensures.items) first-none;
}

pub push_reserved-requires : goal.push_reserved-requires
push_reserved-requires c =
    let many = c.loop-before.invariant.first.many in
    omega (
      arith,
      many,
      c.loop-before.invariant.room,
      c.loop-before-test.true,
      c.loop-before.rows.ok,
    )

pub loop-before-preserved : goal.loop-before-preserved
loop-before-preserved c = record {
  room = omega (arith, c.loop-before.invariant.room, c.push_reserved.ensures.capacity);
  first = subst (AreFirst (c.loop-before.before + 1)) (sym c.push_reserved.ensures.items)
      (first-more c.loop-before.before c.loop-before.rows.items c.in_ok-new.field-0
      c.loop-before.invariant.first c.in_ok-new.ensures);
}

pub invariant_of-result : goal.invariant_of-result
invariant_of-result c =
    let many = c.loop-before.invariant.first.many in omega (arith, many)

pub returns : goal.returns
returns c = all-first c.loop-before.before c.loop-before.rows.items c.loop-before.invariant.first
