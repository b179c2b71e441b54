use Rattle.std.proofs.Common.{◌≡◌, arith, true≢false, sym, ◌∙◌, subst}
use Rattle.std.proofs.lemmas.Fmt.{decimal_injective}
use Rattle.lr_objects.specs.Amount.{IsAmount}
use Rattle.lr_schedule.proofs.arguments.read_amount.Goals as goal

pub returns-then-not-is_amount-clause-none : goal.returns-then-not-is_amount-clause-none
returns-then-not-is_amount-clause-none c = λ _ number rest within is.
    let read = c.in_ok-number.ensures.some in
    let same : number ≡ c.in_ok-number.number =
    decimal_injective number c.in_ok-number.number (omega arith) (omega arith) cc in
    let amount = subst IsAmount same within in
    true≢false (sym (c.is_amount.ensures.1 amount) ∙ c.if-not-is_amount.true)
