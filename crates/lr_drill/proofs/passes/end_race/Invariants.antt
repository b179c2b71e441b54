use Rattle.std.proofs.Common.{◌≡◌, ℕ, ◌+◌, ◌<◌, length}
use Rattle.std.specs.Prelude.{slice_index_or, IfSome}
use Rattle.lr_turnstile.specs.Passes.{view}
use Rattle.lr_drill.specs.Passes.{IsIdleFirst, HasMade}
use Rattle.lr_drill.proofs.Racing.{HaveEnded}
use Rattle.lr_drill.proofs.passes.end_race.Given as goal

abbrev pub invariant-loop-pass : goal.invariant-loop-pass
invariant-loop-pass l = record {
  first : IsIdleFirst l.service l.first;
  made : (view l.first).made ≡ length l.fn.passes.items + 1;
  out : (view l.first).out ≡ length l.passes.items;
  each : (i : ℕ) (d : _) → i < length l.passes.items
      → IfSome (slice_index_or l.passes.items i d) (HasMade l.service (i + 1) l.calls);
  ended : HaveEnded l.calls (length l.passes.items) (length l.fn.passes.items)
      (view l.first).joined;
}

abbrev pub decreases-loop-pass : goal.decreases-loop-pass
decreases-loop-pass l = length l.passes.items
