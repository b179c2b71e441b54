use Rattle.lr_turnstile.specs.Passes.{view}
use Rattle.lr_drill.specs.Passes.{HasMade}
use Rattle.lr_drill.proofs.passes.make_calls.Given as goal

abbrev pub invariant-loop-number : goal.invariant-loop-number
invariant-loop-number g l = HasMade l.service (view l.fn.pass).caller l.number l.pass
