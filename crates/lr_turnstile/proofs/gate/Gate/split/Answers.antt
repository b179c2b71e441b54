use Rattle.std.proofs.Common.{rules}
use Rattle.lr_turnstile.proofs.Splitting.{split_goes}
use Rattle.lr_turnstile.proofs.gate.Gate.split.Goals as goal

pub split_seat-other-requires : goal.split_seat-other-requires
split_seat-other-requires g c =
    (search rules, search rules, split_goes g.V.Kept.stands _ _ c.requires.first)
