use Rattle.std.proofs.Common.{sym, ◌∙◌}
use Rattle.lr_fair.proofs.TurnLemmas.{first-is, none-is}
use Rattle.lr_fair.proofs.turn.is_first.Goals as goal

pub returns-in-Some : goal.returns-in-Some
returns-in-Some c = λ queue at.
    first-is c.args.owner.now queue c.in-Some.first (sym (c.first_owner.ensures queue at) ∙ c.in-Some.is)
    c.is_same.result c.is_same.ensures

pub returns-in-None : goal.returns-in-None
returns-in-None c = λ queue at.
    none-is c.args.owner.now queue (sym (c.first_owner.ensures queue at) ∙ c.in-None.is)
