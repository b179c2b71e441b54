use Rattle.std.proofs.Common.{◌≡◌, ℕ, ◌+◌, ◌<◌, [], length}
use Rattle.std.specs.Prelude.{slice_index_or}
use Rattle.lr_turnstile.specs.Passes.{view}
use Rattle.lr_drill.specs.Passes.{IsIdleFirst, HasMade}
use Rattle.lr_drill.proofs.passes.split_off.Given as goal

abbrev pub invariant-loop : goal.invariant-loop
invariant-loop l = record {
  first : IsIdleFirst l.service l.first;
  made : (view l.first).made ≡ l.counter + 1;
  out : (view l.first).out ≡ l.counter;
  joined : (view l.first).joined ≡ [];
  count : length l.passes.items ≡ l.counter;
  others : (i : ℕ) (d : _) → i < length l.passes.items
      → HasMade l.service (i + 1) 0 (slice_index_or l.passes.items i d);
}
