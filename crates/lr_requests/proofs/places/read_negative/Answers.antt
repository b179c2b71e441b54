use Rattle.std.proofs.Common.{suc, sym, ◌∙◌, arith}
use Rattle.std.proofs.lemmas.Fmt.{decimal_injective}
use Rattle.lr_requests.proofs.places.read_negative.Goals as goal
use Rattle.lr_requests.proofs.places.read_negative.Goals.{then-number-eq0-via-then-number-eq0, then-number-eq0-via-else-number-eq0+then-number-gt-LEAST}

pub returns-then-number-eq0-clause-none : goal.returns-then-number-eq0-clause-none
returns-then-number-eq0-clause-none c = λ _ n small is.
    let number = c.in_ok-number.number in
    let same = decimal_injective (suc n) number (omega arith) (omega arith) (sym is ∙ c.in_ok-number.ensures.some) in
    elim c.then-number-eq0.branch [
      | then-number-eq0-via-then-number-eq0 w ↦ omega arith
      | then-number-eq0-via-else-number-eq0+then-number-gt-LEAST w ↦ omega arith
    ]
