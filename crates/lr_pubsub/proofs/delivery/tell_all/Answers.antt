use Rattle.std.proofs.Common.{◌≡◌, ◌≤◌, ℕ, Bool, true, false, not, IsTrue, ap, sym, subst, ◌∙◌, arith, length, filter, [], ◌∷◌, ◌++◌}
use Rattle.std.proofs.lemmas.List.{append_assoc, append-nil, length-append}
use Rattle.lr_model.specs.Board.{has_room, numbers_below}
use Rattle.lr_pubsub.specs.Connection.{is_usable}
use Rattle.lr_pubsub.specs.ConnectionSet.{has_number}
use Rattle.lr_pubsub.specs.ConnectionSlot.{HasSpare, connection_at}
use Rattle.lr_pubsub.specs.Delivery.{with_message}
use Rattle.lr_model.proofs.Numbers.{below_few, below_first_none, below_popped}
use Rattle.lr_pubsub.proofs.Deliveries.{IsNext-read, IsTold-more, filter-first_fails, filter-first_passes, length-filter-le}
use Rattle.lr_pubsub.proofs.delivery.tell_all.Goals as goal

pub index_mut-requires : goal.index_mut-requires
index_mut-requires c =
    let popped = below_popped 256 (has_number c.loop-conn.listeners) _ c.in-Some.conn
    c.in-Some.ensures.first c.in-Some.ensures.rest in
    let many = c.loop-conn.invariant.told.many in
    omega (arith, popped.below, c.requires.within, many, c.args.slots.now.ok, c.loop-conn.slots.ok)

pub tell-requires-clause-usable : goal.tell-requires-clause-usable
tell-requires-clause-usable c =
    let enough : 256 ≤ length c.args.slots.now.items =
    omega (arith, c.requires.within, c.args.slots.now.ok) in
    let next = IsNext-read c.loop-conn.invariant.told enough c.in-Some.conn c.in-Some.ensures.first
    c.in-Some.ensures.rest c.index_mut.result.now c.index_mut.ensures.value in
    let here = c.loop-conn.invariant.told.among c.in-Some.conn next.popped.passes in
    subst (λ s. IsTrue (is_usable s.connection)) (sym next.was)
    (c.requires.usable c.in-Some.conn here)

pub tell-requires-clause-spare : goal.tell-requires-clause-spare
tell-requires-clause-spare c =
    let enough : 256 ≤ length c.args.slots.now.items =
    omega (arith, c.requires.within, c.args.slots.now.ok) in
    let next = IsNext-read c.loop-conn.invariant.told enough c.in-Some.conn c.in-Some.ensures.first
    c.in-Some.ensures.rest c.index_mut.result.now c.index_mut.ensures.value in
    subst HasSpare (sym next.was) (c.requires.spare c.in-Some.conn)

pub overflow_add-reached : goal.overflow_add-reached
overflow_add-reached c =
    let enough : 256 ≤ length c.args.slots.now.items =
    omega (arith, c.requires.within, c.args.slots.now.ok) in
    let next = IsNext-read c.loop-conn.invariant.told enough c.in-Some.conn c.in-Some.ensures.first
    c.in-Some.ensures.rest c.index_mut.result.now c.index_mut.ensures.value in
    let quick : ℕ → Bool = λ k. has_room (connection_at c.args.slots.now.items k) in
    let room : quick c.in-Some.conn ≡ true =
    ap (λ s. has_room s.connection) (sym next.was) ∙ sym c.tell.ensures.has ∙ c.if-tell.true in
    let rest = numbers_below 256 (has_number c.loop-conn.listeners) in
    let later = numbers_below 256 (has_number c.pop_first.new.self) in
    let here = ap length
    (filter-first_passes quick c.in-Some.conn rest later next.popped.numbers room) in
    let all = numbers_below 256 (has_number c.args.listeners) in
    let few = below_few 256 (has_number c.args.listeners) in
    omega (arith, here, c.loop-conn.invariant.reached, length-filter-le quick all, few)

pub loop-conn-smaller-then-tell : goal.loop-conn-smaller-then-tell
loop-conn-smaller-then-tell c =
    let popped = below_popped 256 (has_number c.loop-conn.listeners) _ c.in-Some.conn
    c.in-Some.ensures.first c.in-Some.ensures.rest in
    let one = ap length popped.numbers in
    omega (arith, one)

pub loop-conn-preserved-then-tell : goal.loop-conn-preserved-then-tell
loop-conn-preserved-then-tell c =
    let enough : 256 ≤ length c.args.slots.now.items =
    omega (arith, c.requires.within, c.args.slots.now.ok) in
    let next = IsNext-read c.loop-conn.invariant.told enough c.in-Some.conn c.in-Some.ensures.first
    c.in-Some.ensures.rest c.index_mut.result.now c.index_mut.ensures.value in
    let quick : ℕ → Bool = λ k. has_room (connection_at c.args.slots.now.items k) in
    let slow : ℕ → Bool = λ k. not (has_room (connection_at c.args.slots.now.items k)) in
    let room : quick c.in-Some.conn ≡ true =
    ap (λ s. has_room s.connection) (sym next.was) ∙ sym c.tell.ensures.has ∙ c.if-tell.true in
    let rest = numbers_below 256 (has_number c.loop-conn.listeners) in
    let later = numbers_below 256 (has_number c.pop_first.new.self) in
    let here = ap length
    (filter-first_passes quick c.in-Some.conn rest later next.popped.numbers room) in
    let same = filter-first_fails slow c.in-Some.conn rest later next.popped.numbers
    (ap not room) in
    record {
      told = IsTold-more c.loop-conn.invariant.told c.in-Some.conn next.popped.passes
          c.tell.new.slot _
          next.within
          (c.tell.ensures.told ∙ ap (λ s. with_message c.args.post.now s.connection) next.is)
          c.in-Some.ensures.rest;
      reached = omega (arith, here, c.loop-conn.invariant.reached);
      full = ap (λ xs. c.loop-conn.full.items ++ xs) (sym same) ∙ c.loop-conn.invariant.full;
      capacity = c.loop-conn.invariant.capacity;
    }

pub push_reserved-requires : goal.push_reserved-requires
push_reserved-requires c =
    let enough : 256 ≤ length c.args.slots.now.items =
    omega (arith, c.requires.within, c.args.slots.now.ok) in
    let next = IsNext-read c.loop-conn.invariant.told enough c.in-Some.conn c.in-Some.ensures.first
    c.in-Some.ensures.rest c.index_mut.result.now c.index_mut.ensures.value in
    let quick : ℕ → Bool = λ k. has_room (connection_at c.args.slots.now.items k) in
    let slow : ℕ → Bool = λ k. not (has_room (connection_at c.args.slots.now.items k)) in
    let room : quick c.in-Some.conn ≡ false =
    ap (λ s. has_room s.connection) (sym next.was) ∙ sym c.tell.ensures.has ∙ c.if-tell.false in
    let rest = numbers_below 256 (has_number c.loop-conn.listeners) in
    let later = numbers_below 256 (has_number c.pop_first.new.self) in
    let here = ap length
    (filter-first_passes slow c.in-Some.conn rest later next.popped.numbers (ap not room)) in
    let all = numbers_below 256 (has_number c.args.listeners) in
    let few = below_few 256 (has_number c.args.listeners) in
    let parts = ap length c.loop-conn.invariant.full in
    omega (
      arith,
      here,
      parts,
      few,
      length-append c.loop-conn.full.items (filter slow rest),
      length-filter-le slow all,
      c.requires.room,
      c.loop-conn.invariant.capacity,
      c.loop-conn.full.ok,
    )

pub loop-conn-smaller : goal.loop-conn-smaller
loop-conn-smaller c =
    let popped = below_popped 256 (has_number c.loop-conn.listeners) _ c.in-Some.conn
    c.in-Some.ensures.first c.in-Some.ensures.rest in
    let one = ap length popped.numbers in
    omega (arith, one)

pub loop-conn-preserved : goal.loop-conn-preserved
loop-conn-preserved c =
    let enough : 256 ≤ length c.args.slots.now.items =
    omega (arith, c.requires.within, c.args.slots.now.ok) in
    let next = IsNext-read c.loop-conn.invariant.told enough c.in-Some.conn c.in-Some.ensures.first
    c.in-Some.ensures.rest c.index_mut.result.now c.index_mut.ensures.value in
    let quick : ℕ → Bool = λ k. has_room (connection_at c.args.slots.now.items k) in
    let slow : ℕ → Bool = λ k. not (has_room (connection_at c.args.slots.now.items k)) in
    let room : quick c.in-Some.conn ≡ false =
    ap (λ s. has_room s.connection) (sym next.was) ∙ sym c.tell.ensures.has ∙ c.if-tell.false in
    let rest = numbers_below 256 (has_number c.loop-conn.listeners) in
    let later = numbers_below 256 (has_number c.pop_first.new.self) in
    let same = ap length
    (filter-first_fails quick c.in-Some.conn rest later next.popped.numbers room) in
    let here = filter-first_passes slow c.in-Some.conn rest later next.popped.numbers
    (ap not room) in
    record {
      told = IsTold-more c.loop-conn.invariant.told c.in-Some.conn next.popped.passes
          c.tell.new.slot _
          next.within
          (c.tell.ensures.told ∙ ap (λ s. with_message c.args.post.now s.connection) next.is)
          c.in-Some.ensures.rest;
      reached = omega (arith, same, c.loop-conn.invariant.reached);
      full = ap (λ xs. xs ++ filter slow later) c.push_reserved.ensures.items
          ∙ append_assoc c.loop-conn.full.items (c.in-Some.conn ∷ []) (filter slow later)
          ∙ ap (λ xs. c.loop-conn.full.items ++ xs) (sym here)
          ∙ c.loop-conn.invariant.full;
      capacity = c.push_reserved.ensures.capacity ∙ c.loop-conn.invariant.capacity;
    }

pub returns-clause-reached : goal.returns-clause-reached
returns-clause-reached c =
    let quick : ℕ → Bool = λ k. has_room (connection_at c.args.slots.now.items k) in
    let rest = has_number c.loop-conn.listeners in
    let none = below_first_none 256 rest (sym c.in_default.ensures.first) in
    let left : length (filter quick (numbers_below 256 rest)) ≡ 0 =
    ap (λ xs. length (filter quick xs)) none in
    omega (arith, left, c.loop-conn.invariant.reached)

pub returns-clause-full : goal.returns-clause-full
returns-clause-full c =
    let slow : ℕ → Bool = λ k. not (has_room (connection_at c.args.slots.now.items k)) in
    let rest = has_number c.loop-conn.listeners in
    let none = below_first_none 256 rest (sym c.in_default.ensures.first) in
    sym (append-nil c.loop-conn.full.items)
    ∙ ap (λ xs. c.loop-conn.full.items ++ filter slow xs) (sym none)
    ∙ c.loop-conn.invariant.full
