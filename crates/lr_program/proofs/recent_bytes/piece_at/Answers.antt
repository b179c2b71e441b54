-- the piece at this place among those that `split` gives
use Rattle.std.proofs.Common.{rules}
use Rattle.std.specs.Prelude.{◌==◌}
use Rattle.std.proofs.lemmas.Iterator.Consumers.{nth_from_yields_List}
use Rattle.std.proofs.lemmas.Iterator.Splits.{YieldsList-from_slice_split}
use borrow.Author.Tests.{tests}
use Rattle.lr_program.proofs.recent_bytes.piece_at.Goals as goal

pub returns : goal.returns
returns c =
    nth_from_yields_List _ _ _ c.nth.ensures.ran
    (YieldsList-from_slice_split _ (λ b. b == 10) c.args.bytes.now
    c.split.ensures.rest c.split.ensures.done c.split.ensures.closure
    (λ x b q k. search (rules, tests)))
