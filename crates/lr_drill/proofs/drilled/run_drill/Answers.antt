use Rattle.std.proofs.Common.{◌≡◌, ℕ, ◌+◌, add-one, ap, sym, ◌∙◌, arith, rules}
use Rattle.lr_drill.specs.Drill.{Drilled, drilled_at, next_drilled}
use Rattle.lr_drill.proofs.drilled.run_drill.Goals as goal

drilled_more : (number events : ℕ)
    → drilled_at number (events + 1) ≡ next_drilled (drilled_at number events)
drilled_more number events = ap (drilled_at number) (add-one events)

pub loop-preserved : goal.loop-preserved
loop-preserved c =
    let i = c.loop.invariant in
    let now = c.in_ok-go_on.ensures in record {
      drilled =
          now.next ∙ ap next_drilled i.drilled
          ∙ sym (drilled_more c.args.number c.loop.counter);
      count = search rules;
      few = omega (arith, now.few, now.count, i.count);
    }

pub loop-init : goal.loop-init
loop-init c =
    let drill = c.in_ok-drill.ensures in
    let none : c.in_ok-drill.drill.not_applied ≡ 0 =
    ap (λ (drilled : Drilled). drilled.not_applied) drill.first in
    record { drilled = drill.first; count = drill.unused; few = omega (arith, none) }
