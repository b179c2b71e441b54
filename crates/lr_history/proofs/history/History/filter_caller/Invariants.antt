use Rattle.std.proofs.Common.{◌≡◌, ◌==◌, filter, take}
use Rattle.std.specs.List.{flat_map}
use Rattle.lr_history.proofs.history.History.filter_caller.Given as goal

abbrev pub invariant-loop-segment : goal.invariant-loop-segment
invariant-loop-segment l =
    let seen = take l.segment-index l.self-inside.full.items in
    l.found ≡ filter (λ e. e.caller == l.caller) (flat_map (λ segment. segment) seen)
