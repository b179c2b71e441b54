use Rattle.std.proofs.Common.{rules}
use Rattle.lr_turnstile.proofs.Joining.{join_goes}
use Rattle.lr_turnstile.proofs.gate.Gate.join.Goals as goal

pub join_seat-requires : goal.join_seat-requires
join_seat-requires g c =
    let q = c.requires in (
      search rules,
      search rules,
      search rules,
      search rules,
      join_goes g.V.Kept.stands _ _ _ _ q.first q.free.turn q.other c.args.other.not_spent
          q.other_free.turn,
    )
