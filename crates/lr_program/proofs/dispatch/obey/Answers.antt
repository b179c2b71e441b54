use Rattle.std.proofs.Common.{refl}
use Rattle.lr_program.proofs.dispatch.obey.Goals as goal

pub race-requires-after_bounds : goal.race-requires-after_bounds
race-requires-after_bounds g c κs within =
    ((c.in-Race.ensures.race c.in-Race.threads c.in-Race.calls).0 refl).size

pub returns-in-Race-clause-usage : goal.returns-in-Race-clause-usage
returns-in-Race-clause-usage g c =
    let is = (c.in-Race.ensures.race c.in-Race.threads c.in-Race.calls).0 refl in
    (λ e. absurd (c.race.ensures.not_usage e), λ none. absurd (none.3 _ _ is))

pub returns-in-Race-clause-ends : goal.returns-in-Race-clause-ends
returns-in-Race-clause-ends g c = λ play.
    let is = (c.in-Race.ensures.race c.in-Race.threads c.in-Race.calls).0 refl in
    let text = is.text in
    absurd cc

pub drill-requires : goal.drill-requires
drill-requires g c = ((c.in-Drill.ensures.drill c.in-Drill.number c.in-Drill.events).0 refl).size

pub returns-in-Drill-clause-usage : goal.returns-in-Drill-clause-usage
returns-in-Drill-clause-usage g c =
    let is = (c.in-Drill.ensures.drill c.in-Drill.number c.in-Drill.events).0 refl in
    (λ e. absurd (c.drill.ensures.not_usage e), λ none. absurd (none.4 _ _ is))

pub returns-in-Drill-clause-ends : goal.returns-in-Drill-clause-ends
returns-in-Drill-clause-ends g c = λ play.
    let is = (c.in-Drill.ensures.drill c.in-Drill.number c.in-Drill.events).0 refl in
    let text = is.text in
    absurd cc
