use Rattle.std.proofs.Common.{◌≡◌, arith, true≢false, sym, ◌∙◌, subst}
use Rattle.std.proofs.lemmas.Fmt.{decimal_injective}
use Rattle.lr_schedule.specs.Spelled.{IsWait}
use Rattle.lr_schedule.proofs.mode.read_wait.Goals as goal

pub returns-then-not-is_wait-clause-none : goal.returns-then-not-is_wait-clause-none
returns-then-not-is_wait-clause-none c = λ _ millis within is.
    let read = c.in_ok-millis.ensures.some in
    let same : millis ≡ c.in_ok-millis.millis =
    decimal_injective millis c.in_ok-millis.millis (omega arith) (omega arith) cc in
    let wait = subst IsWait same within in
    true≢false (sym (c.is_wait.ensures.1 wait) ∙ c.if-not-is_wait.true)
