use Rattle.std.proofs.Common.{refl, sym, ◌∙◌, true≢false}
use Rattle.lr_frames.proofs.FaultLaws.{no_amount}
use Rattle.lr_frames.proofs.read.amount_of.Goals as goal

pub returns-then-not-is_amount-clause-fault : goal.returns-then-not-is_amount-clause-fault
returns-then-not-is_amount-clause-fault c =
    let read = c.in_ok-number.ensures.number in
    (refl, no_amount c.args.word.now c.in_ok-number.number read.0 read.1 (λ is. true≢false (sym (c.is_amount.ensures.1 is) ∙ c.if-not-is_amount.true)))
