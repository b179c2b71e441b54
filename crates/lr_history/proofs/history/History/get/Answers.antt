use Rattle.std.proofs.Common.{◌≡◌, ◌%◌, ◌-◌, ◌*◌, ◌<◌, ◌≤◌, length, slice_get, arith, ap, sym, ◌∙◌}
use Rattle.lr_history.proofs.SegmentLemmas.{slice_get-full, slice_get-last}
use Rattle.lr_history.proofs.history.History.get.Goals as goal

pub returns-then-place-before_last : goal.returns-then-place-before_last
returns-then-place-before_last c =
    let full = c.self.inside.full in
    let last = c.self.inside.last in
    let place = c.args.place in
    let before : place < length full.items * 1024 = omega (arith, full.ok.0) in
    rw (← c.self.view_is)
    (c.get.ensures
    ∙ ap (λ segment. slice_get segment (place % 1024)) c.index.ensures
    ∙ sym
    (slice_get-full full.items last place c.index.result.now c.self.invariant.filled before))

pub returns-else-place-before_last : goal.returns-else-place-before_last
returns-else-place-before_last c =
    let full = c.self.inside.full in
    let last = c.self.inside.last in
    let place = c.args.place in
    let count : c.len-before_last.result ≡ length full.items = omega (arith, full.ok.0) in
    let behind : length full.items * 1024 ≤ place = omega (arith, full.ok.0) in
    rw (← c.self.view_is)
    (c.get-else-place-before_last.ensures
    ∙ ap (λ n. slice_get last (place - n * 1024)) count
    ∙ sym (slice_get-last full.items last place c.self.invariant.filled behind))
