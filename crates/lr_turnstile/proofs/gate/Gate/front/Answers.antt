use Rattle.std.proofs.Common.{rules}
use Rattle.lr_turnstile.proofs.Moves.{look_goes}
use Rattle.lr_turnstile.proofs.gate.Gate.front.Goals as goal

pub load-requires : goal.load-requires
load-requires g c =
    (search rules, search rules, look_goes g.V.Kept.stands _ _ _ c.args.pass.now.not_spent)
