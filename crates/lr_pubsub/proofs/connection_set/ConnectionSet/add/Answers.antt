use Rattle.std.proofs.Common.{◌/◌, ◌%◌, get_or, arith, w64}
use Rattle.std.proofs.lemmas.Bool.{eq-eqb}
use Rattle.std.proofs.lemmas.Nat.Bits.{bit_at_set_same, bit_at_set_other}
use Rattle.lr_pubsub.proofs.ConnectionSets.{has_number-written}
use Rattle.lr_pubsub.proofs.connection_set.ConnectionSet.add.Goals as goal

pub returns : goal.returns
returns c =
    let words = c.args.self.now.words in
    let conn = c.args.conn in
    let word = get_or words (conn / 64) 0 in
    has_number-written words conn _ _ (omega arith)
    (eq-eqb _ 1 (bit_at_set_same w64 word (conn % 64) (omega arith)))
    (λ i below apart. bit_at_set_other w64 word (conn % 64) (omega arith) i apart)
