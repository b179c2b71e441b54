use Rattle.std.proofs.Common.{true≢false, sym, ◌∙◌}
use Rattle.lr_text.proofs.NumberLaws.{decimal_no_sign, decimal_no_zeros, IsUtf8-decimal}
use Rattle.lr_text.proofs.number.read_number.Goals as goal

pub returns-then-not-has_plain_start-clause-none :
    goal.returns-then-not-has_plain_start-clause-none
returns-then-not-has_plain_start-clause-none c = λ _ n small is.
    true≢false (sym (c.has_plain_start.ensures.1 (rw is (decimal_no_sign n small), rw is (decimal_no_zeros n small))) ∙ c.if-not-has_plain_start.true)

pub returns-in-Err-clause-none : goal.returns-in-Err-clause-none
returns-in-Err-clause-none c = λ _ n small is. c.in-Err.ensures.cases.0 (rw is (IsUtf8-decimal n small))
