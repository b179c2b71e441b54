use Rattle.std.proofs.Common.{rules}
use Rattle.lr_turnstile.proofs.Moves.{leave_same_goes_at}
use Rattle.lr_turnstile.proofs.gate.Gate.leave_same.Goals as goal

pub fetch_sub-requires : goal.fetch_sub-requires
fetch_sub-requires g c = (
  search rules,
  search rules,
  leave_same_goes_at g.V.Kept.stands _ _ _ _ _ c.put.ensures.home c.args.pass.now.not_spent
      c.requires.turn.turn c.requires.value,
)
