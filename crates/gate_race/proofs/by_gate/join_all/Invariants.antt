use Rattle.std.proofs.Common.{◌≡◌, vec_len}
use Rattle.std.specs.List.{All}
use Rattle.lr_turnstile.specs.Passes.{view, IsFirst, IsOther}
use Rattle.gate_race.proofs.by_gate.join_all.Given as goal

abbrev pub invariant-loop-pass : goal.invariant-loop-pass
invariant-loop-pass l = record {
  first : IsFirst l.gate l.first;
  others : All (IsOther l.gate) l.passes.items;
  out : (view l.first).out ≡ vec_len l.passes;
}

abbrev pub decreases-loop-pass : goal.decreases-loop-pass
decreases-loop-pass l = vec_len l.passes
