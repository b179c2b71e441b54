use Rattle.std.proofs.Common.{◌≡◌, ◌++◌, length, codes}
use Rattle.lr_drill.specs.Summary.{number_line, caller_lines}
use Rattle.lr_drill.proofs.summary.summary_of.Given as goal

abbrev pub invariant-loop-place : goal.invariant-loop-place
invariant-loop-place l =
    l.text ≡ number_line (codes "threads ") l.threads
    ++ number_line (codes "entries ") (length l.history.entries)
    ++ caller_lines l.history.entries l.place
