use Rattle.std.proofs.Common.{◌≡◌, ◌+◌, vec_len}
use Rattle.std.specs.List.{All}
use Rattle.lr_turnstile.specs.Passes.{view, IsFirst, IsOther}
use Rattle.gate_race.proofs.by_gate.split_off.Given as goal

abbrev pub invariant-loop : goal.invariant-loop
invariant-loop l = record {
  first : IsFirst l.gate l.first;
  made : (view l.first).made ≡ l.counter + 1;
  out : (view l.first).out ≡ vec_len l.passes;
  others : All (IsOther l.gate) l.passes.items;
}
