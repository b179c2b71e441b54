use Rattle.std.proofs.Common.{arith}
use Rattle.lr_resp.proofs.Written.{item_smaller, item_more, kept}
use Rattle.lr_resp.proofs.writer.+append.Goals as goal

pub append-requires : goal.append-requires
append-requires t c =
    let below = item_smaller c.args.frame.now c.item-item.result c.in-Array.items
    c.as_slice-item-items.result.now c.loop-item.item-index c.in-Array.is
    c.as_slice-item-items.ensures c.loop-item-test.true c.item-item.is in
    let e = c.decreases in
    (omega arith, tt)

pub returns-in_err-append-in-Array-clause-kept : goal.returns-in_err-append-in-Array-clause-kept
returns-in_err-append-in-Array-clause-kept t c =
    let new = c.append.new.out.items in
    kept c.args.out.now.items _ c.append_length.new.out.items new
    c.in_ok-append_length-in-Array.ensures.ok
    (kept c.append_length.new.out.items _ c.loop-item.out.items new c.loop-item.invariant
    c.in_err-append-in-Array.ensures.kept)

pub loop-item-preserved : goal.loop-item-preserved
loop-item-preserved t c =
    item_more c.as_slice-item-items.result.now c.loop-item.item-index c.item-item.result
    c.append_length.new.out.items c.loop-item.out.items c.append.new.out.items
    c.loop-item-test.true c.item-item.is c.loop-item.invariant
    c.in_ok-append-in-Array.ensures.ok
