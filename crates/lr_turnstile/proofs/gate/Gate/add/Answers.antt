use Rattle.std.proofs.Common.{rules}
use Rattle.lr_turnstile.proofs.Moves.{leave_with_goes_at}
use Rattle.lr_turnstile.proofs.gate.Gate.add.Goals as goal

pub fetch_add-requires : goal.fetch_add-requires
fetch_add-requires g c =
    let v = c.requires.value in (
      search rules,
      search rules,
      leave_with_goes_at g.V.Kept.stands _ _ _ _ v.0 v.1 c.args.pass.now.not_spent c.requires.turn
          c.requires.caller v.2 c.requires.room,
    )
