use Rattle.std.proofs.Common.{◌≡◌, ◌≤◌, arith, true≢false, sym, ◌∙◌}
use Rattle.std.proofs.lemmas.Fmt.{decimal_injective}
use Rattle.lr_program.proofs.numbers.read_within.Goals as goal

pub returns-then-not-is_within-clause-none : goal.returns-then-not-is_within-clause-none
returns-then-not-is_within-clause-none c = λ _ n above below is.
    let read = c.in_ok-number.ensures.some in
    let same : n ≡ c.in_ok-number.number =
    decimal_injective n c.in_ok-number.number (omega arith) (omega arith) cc in
    let least : c.args.least ≤ c.in_ok-number.number = omega arith in
    let most : c.in_ok-number.number ≤ c.args.most = omega arith in
    true≢false (sym (c.is_within.ensures.1 (least, most)) ∙ c.if-not-is_within.true)
