use Rattle.std.proofs.Common.{sym, ◌∙◌, arith}
use Rattle.std.proofs.lemmas.Fmt.{decimal_injective}
use Rattle.lr_requests.proofs.places.read_positive.Goals as goal

pub returns-then-number-ge-LEAST-clause-none : goal.returns-then-number-ge-LEAST-clause-none
returns-then-number-ge-LEAST-clause-none c = λ _ n small is.
    let number = c.in_ok-number.number in
    omega (arith, decimal_injective n number (omega arith) (omega arith) (sym is ∙ c.in_ok-number.ensures.some))
