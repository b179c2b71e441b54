use Rattle.std.proofs.Common.{◌++◌, take, ap, ◌∙◌, arith, length-take-le}
use Rattle.lr_outside.proofs.Kept.{Fit, kept-read, kept-read_none}
use Rattle.lr_outside.proofs.window.Window.fill.Goals as goal

pub returns-in-Got-clause-bytes : goal.returns-in-Got-clause-bytes
returns-in-Got-clause-bytes g c =
    let w = c.make_room.new.self in
    let ys = c.read-turn.new.buffer in
    let n = c.in-Got.count in
    let got = c.in-Got.ensures.bytes in
    let fit : Fit w.buffer c.deref_mut.result.now ys w.start w.end = record {
      held = c.deref_mut.ensures.value;
      size = c.deref_mut.ensures.len;
      in_order = omega arith;
      in_buffer = omega arith;
      behind = omega arith;
    } in
    record {
      bytes = take n ys;
      kept = kept-read w.buffer _ ys w.start w.end fit n got.1 ∙ ap (λ l. l ++ take n ys) c.make_room.ensures.kept;
      some = omega (arith, length-take-le n ys got.1);
      taken = got.2;
    }

pub returns-in-End-clause-bytes : goal.returns-in-End-clause-bytes
returns-in-End-clause-bytes g c =
    let w = c.make_room.new.self in
    let ys = c.read-turn.new.buffer in
    let fit : Fit w.buffer c.deref_mut.result.now ys w.start w.end = record {
      held = c.deref_mut.ensures.value;
      size = c.deref_mut.ensures.len;
      in_order = omega arith;
      in_buffer = omega arith;
      behind = omega arith;
    } in
    let kept = c.in-End.ensures.bytes in
    rw c.in-End.is (kept-read_none w.buffer _ ys w.start w.end fit ∙ c.make_room.ensures.kept, kept.0, kept.1)

pub returns-in-Failed-clause-bytes : goal.returns-in-Failed-clause-bytes
returns-in-Failed-clause-bytes g c =
    let w = c.make_room.new.self in
    let ys = c.read-turn.new.buffer in
    let fit : Fit w.buffer c.deref_mut.result.now ys w.start w.end = record {
      held = c.deref_mut.ensures.value;
      size = c.deref_mut.ensures.len;
      in_order = omega arith;
      in_buffer = omega arith;
      behind = omega arith;
    } in
    rw c.in-Failed.is (kept-read_none w.buffer _ ys w.start w.end fit ∙ c.make_room.ensures.kept, c.in-Failed.ensures.bytes)
