use Rattle.lr_turnstile.specs.Rule.{vacant}
use Rattle.lr_turnstile.proofs.Moves.{top}
use Rattle.lr_turnstile.proofs.gate.Gate.put.Goals as goal

pub exchange-value-requires : goal.exchange-value-requires
exchange-value-requires g c = (c.requires.of, (vacant, top _ _ _ c.requires.turn.slots))
