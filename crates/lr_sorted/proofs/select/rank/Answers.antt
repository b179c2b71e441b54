use Rattle.std.proofs.Common.{◌<◌, length, sym, ap, ◌∙◌, arith}
use Rattle.std.specs.Prelude.{slice_get}
use Rattle.lr_sorted.proofs.SelectLaws.{once, rank-take}
use Rattle.lr_sorted.proofs.select.rank.Goals as goal
use Rattle.lr_sorted.proofs.select.rank.Goals.{then-wins, else-wins}

pub loop-other-preserved : goal.loop-other-preserved
loop-other-preserved c =
    let entries = c.args.scores.now.entries in
    let other = c.loop-other.other in
    let within : other < length entries = omega (arith, c.loop-other-test.true, c.len-other-end.ensures.len) in
    let more = rank-take (slice_get entries c.args.place) entries other within in
    elim c.if-wins.branch [
      | then-wins w ↦
          let one = ap once (sym c.wins.ensures ∙ w.if-wins.true) in
          record {
            few = omega (arith, w.count-is, c.loop-other.invariant.few);
            rank = omega (arith, w.count-is, c.loop-other.invariant.rank, one, more);
          }
      | else-wins w ↦
          let none = ap once (sym c.wins.ensures ∙ w.if-wins.false) in
          record {
            few = omega (arith, w.count-is, c.loop-other.invariant.few);
            rank = omega (arith, w.count-is, c.loop-other.invariant.rank, none, more);
          }
    ]
