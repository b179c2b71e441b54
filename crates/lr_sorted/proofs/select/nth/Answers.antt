use Rattle.std.proofs.Common.{◌≡◌, ◌<◌, ◌≤◌, sym, ◌∙◌, true≢false, arith}
use Rattle.lr_sorted.specs.Select.{least_behind, first_past, rank_at}
use Rattle.lr_sorted.proofs.SelectLaws.{sought, between-sought, between-behind, between-ahead, rank-is}
use Rattle.lr_sorted.proofs.select.nth.Goals as goal

pub returns-in_default : goal.returns-in_default
returns-in_default c =
    let entries = c.args.scores.now.entries in
    let h = c.halve.invariant in
    let s = sought entries c.args.at c.len-past.ensures.unique c.requires in
    let from : least_behind entries c.halve.low ≤ c.args.at = omega (arith, h.least, h.from) in
    let to : c.args.at < first_past entries c.halve.high = omega (arith, h.past, h.to) in
    absurd (true≢false (sym (between-sought entries c.halve.low c.halve.high c.args.at s.0 from to s.3)
    ∙ c.in_default.ensures.none s.0 s.1))

pub returns-then-rank-at : goal.returns-then-rank-at
returns-then-rank-at c =
    let rank : rank_at c.args.scores.now.entries c.in-Some.place ≡ c.args.at = omega (arith, c.rank-rank.ensures, c.if-rank-at.true) in
    rank-is c.args.scores.now.entries c.args.at c.in-Some.place c.len-past.ensures.unique c.in-Some.ensures.within rank

pub halve-smaller-then-rank-at-2 : goal.halve-smaller-then-rank-at-2
halve-smaller-then-rank-at-2 c =
    let entries = c.args.scores.now.entries in
    let h = c.halve.invariant in
    let place = c.in-Some.place in
    let behind = between-behind entries c.halve.low c.halve.high place h.low c.in-Some.ensures.some in
    let ahead = between-ahead entries c.halve.low c.halve.high place c.in-Some.ensures.within c.in-Some.ensures.some in
    omega (arith, h.least, h.past, h.from, h.to, c.rank-rank.ensures)

pub halve-smaller : goal.halve-smaller
halve-smaller c =
    let entries = c.args.scores.now.entries in
    let h = c.halve.invariant in
    let place = c.in-Some.place in
    let behind = between-behind entries c.halve.low c.halve.high place h.low c.in-Some.ensures.some in
    let ahead = between-ahead entries c.halve.low c.halve.high place c.in-Some.ensures.within c.in-Some.ensures.some in
    omega (arith, h.least, h.past, h.from, h.to, c.rank-rank.ensures)
