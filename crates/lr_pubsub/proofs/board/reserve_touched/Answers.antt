use Rattle.std.proofs.Common.{◌<◌, ap, sym, ◌∙◌, arith, length}
use Rattle.std.proofs.lemmas.List.{length-set}
use Rattle.lr_pubsub.specs.ConnectionSet.{has_number}
use Rattle.lr_model.proofs.Numbers.{below_least, below_popped}
use Rattle.lr_pubsub.proofs.Slots.{connections_of-like}
use Rattle.lr_pubsub.proofs.SparePlaces.{spare-failed, spare-taken}
use Rattle.lr_pubsub.proofs.board.reserve_touched.Goals as goal

pub index_mut-requires : goal.index_mut-requires
index_mut-requires c =
    let least = below_least 256 (has_number c.loop-conn.touched) c.in-Some.conn
    (sym c.in-Some.ensures.least) in
    omega (
      arith,
      least.below,
      c.requires.many,
      c.loop-conn.invariant.many,
      c.args.slots.now.ok,
      c.loop-conn.slots.ok,
    )

pub returns-in_err-reserve-clause-same : goal.returns-in_err-reserve-clause-same
returns-in_err-reserve-clause-same c =
    connections_of-like c.loop-conn.slots.items c.in-Some.conn c.index_mut.result.now
    c.reserve.new.self c.index_mut.ensures.value c.reserve.ensures.same
    ∙ c.loop-conn.invariant.same

pub returns-in_err-reserve-clause-spare : goal.returns-in_err-reserve-clause-spare
returns-in_err-reserve-clause-spare c =
    let least = below_least 256 (has_number c.loop-conn.touched) c.in-Some.conn
    (sym c.in-Some.ensures.least) in
    let within : c.in-Some.conn < length c.loop-conn.slots.items =
    omega (
      arith,
      least.below,
      c.requires.many,
      c.loop-conn.invariant.many,
      c.args.slots.now.ok,
    ) in
    spare-failed c.loop-conn.slots.items c.in-Some.conn c.reserve.new.self within
    (has_number c.loop-conn.touched)
    c.loop-conn.invariant.spare least.passes

pub remove-requires : goal.remove-requires
remove-requires c =
    (below_least 256 (has_number c.loop-conn.touched) c.in-Some.conn
    (sym c.in-Some.ensures.least)).below

pub loop-conn-smaller : goal.loop-conn-smaller
loop-conn-smaller c =
    let popped =
    below_popped 256 (has_number c.loop-conn.touched) _ c.in-Some.conn c.in-Some.ensures.least
    c.remove.ensures in
    let one = ap length popped.numbers in
    omega (arith, one)

pub loop-conn-preserved : goal.loop-conn-preserved
loop-conn-preserved c =
    let least = below_least 256 (has_number c.loop-conn.touched) c.in-Some.conn
    (sym c.in-Some.ensures.least) in
    let within : c.in-Some.conn < length c.loop-conn.slots.items =
    omega (
      arith,
      least.below,
      c.requires.many,
      c.loop-conn.invariant.many,
      c.args.slots.now.ok,
    ) in
    record {
      many = length-set c.loop-conn.slots.items c.in-Some.conn c.reserve.new.self
          ∙ c.loop-conn.invariant.many;
      same = connections_of-like c.loop-conn.slots.items c.in-Some.conn c.index_mut.result.now
          c.reserve.new.self c.index_mut.ensures.value c.reserve.ensures.same
          ∙ c.loop-conn.invariant.same;
      spare = spare-taken c.loop-conn.slots.items c.in-Some.conn c.reserve.new.self within
          (has_number c.loop-conn.touched)
          c.loop-conn.invariant.spare _ c.remove.ensures c.in_ok-reserve.ensures.spare;
    }
