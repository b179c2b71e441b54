use Rattle.std.proofs.Common.{◌==◌, ◌/◌, ◌%◌, get_or, ap}
use Rattle.std.proofs.lemmas.Nat.Bits.{shr_and_one}
use Rattle.lr_pubsub.specs.ConnectionSet.{has_number}
use Rattle.lr_pubsub.proofs.connection_set.ConnectionSet.has.Goals as goal

pub returns : goal.returns
unfolding has_number
returns c = ap (λ b. b == 1)
    (shr_and_one (get_or c.args.self.now.words (c.args.conn / 64) 0) (c.args.conn % 64))
