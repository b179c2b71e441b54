use Rattle.std.proofs.Common.{◌≡◌, ◌==◌, ◌++◌, filter, take}
use Rattle.lr_history.proofs.history.push_of_caller.Given as goal

abbrev pub invariant-loop-entry : goal.invariant-loop-entry
invariant-loop-entry l =
    let seen = take l.entry-index l.entries in
    l.found ≡ l.initial.found ++ filter (λ e. e.caller == l.caller) seen
