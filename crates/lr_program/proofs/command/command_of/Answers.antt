use Rattle.std.proofs.Common.{◌≡◌}
use Rattle.lr_program.specs.Commands.{IsDrillOf, IsRaceOf}
use Rattle.lr_program.proofs.DrillLaws.{same_drill}
use Rattle.lr_program.proofs.RaceLaws.{same_race}
use Rattle.lr_program.proofs.command.command_of.Goals as goal

pub returns-in-Some-clause-race : goal.returns-in-Some-clause-race
returns-in-Some-clause-race c = λ threads calls.
    let here : IsRaceOf c.args.words.now c.in-Some.threads c.in-Some.calls = c.in-Some.ensures.some in (
      λ e.
          let same : c.in-Some.threads ≡ threads = cc in
          let each : c.in-Some.calls ≡ calls = cc in
          rw (← same, ← each) here,
      λ is. let same = same_race c.args.words.now _ _ threads calls here is in cc,
    )

pub returns-in-Some-drill_of-clause-drill : goal.returns-in-Some-drill_of-clause-drill
returns-in-Some-drill_of-clause-drill c = λ number events.
    let asked = c.in-Some-drill_of in
    let here : IsDrillOf c.args.words.now asked.number asked.events = asked.ensures.some in (
      λ e.
          let same : asked.number ≡ number = cc in
          let each : asked.events ≡ events = cc in
          rw (← same, ← each) here,
      λ is. let same = same_drill c.args.words.now _ _ number events here is in cc,
    )
