use Rattle.std.proofs.Common.{◌≡◌, ℕ, List, [], Option, Some, refl, arith, ap, ◌∙◌, subst, sym}
use Rattle.lr_outside.specs.Lines.{ahead}
use Rattle.lr_machine.specs.World.{first_world}
use Rattle.lr_world.specs.World.{WorldValue, world_of}
use Rattle.lr_play.specs.Progress.{IsAt, Progress}
use Rattle.lr_play.proofs.Progress.{start, nothing_written}
use Rattle.lr_play.proofs.run.run.Goals as goal

pub returns-in_default-clause-ends : goal.returns-in_default-clause-ends
returns-in_default-clause-ends g c = λ all before left held. (all, before, left, held, nothing_written all before)

at_start : (kept : List ℕ) (left held : Option (List ℕ)) (all before : List ℕ) (value : WorldValue) → kept ≡ [] → left ≡ Some all → held ≡ Some before → world_of value ≡ first_world → IsAt kept left held all before 1 (world_of value)
at_start kept left held all before value none left_is held_is fresh = record {
  bytes = all;
  bytes_are = ap (λ k. ahead k left) none ∙ ap (ahead []) left_is;
  text = before;
  text_is = held_is;
  progress = subst (λ w. Progress all before all before 1 w) (sym fresh) (start all before);
}

pub loop-status-init : goal.loop-status-init
loop-status-init g c = record {
  free = c.in-Ok.ensures.free;
  place = omega (arith, c.requires.unused);
  limit = omega arith;
  read = refl;
  written = refl;
  at = λ all before left held. at_start c.in-Ok.reader.kept _ _ all before c.args.world.now c.in-Ok.ensures.kept left held c.requires.first;
}

pub returns-in-Some-clause-ends : goal.returns-in-Some-clause-ends
returns-in-Some-clause-ends g c = λ all before left held.
    let e = c.in-Some.ensures.ends all before (c.loop-status.invariant.at all before left held) in
    (e.rest, e.text, e.rest_is, e.text_is, e.so)

pub loop-status-preserved : goal.loop-status-preserved
loop-status-preserved g c =
    let before_it = c.loop-status.invariant in
    let after_it = c.in_default-take_line.ensures in
    record {
      free = after_it.free;
      place = omega (arith, after_it.place, before_it.place);
      limit = omega (arith, after_it.limit);
      read = after_it.read_on ∙ before_it.read;
      written = after_it.write_on ∙ before_it.written;
      at = λ all before left held. after_it.goes_on all before (before_it.at all before left held);
    }
