use Rattle.std.proofs.Common.{◌≡◌, rules, sym, subst}
use Rattle.lr_machine.specs.Within.{IsWithin, MayBegin}
use Rattle.lr_drill.specs.Drill.{event_drawn}
use Rattle.lr_drill.proofs.Drawn.{drawn_within, drawn_begins}
use Rattle.lr_drill.proofs.draw.event_drawn.Goals as goal

pub returns-clause-within : goal.returns-clause-within
returns-clause-within c =
    let is : c.event.result ≡ event_drawn c.args.number c.args.moment = search rules in
    subst IsWithin (sym is) (drawn_within c.args.number c.args.moment)

pub returns-clause-begins : goal.returns-clause-begins
returns-clause-begins c =
    let is : c.event.result ≡ event_drawn c.args.number c.args.moment = search rules in
    subst MayBegin (sym is) (drawn_begins c.args.number c.args.moment)
