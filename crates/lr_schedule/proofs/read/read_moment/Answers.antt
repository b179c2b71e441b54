use Rattle.std.proofs.Common.{◌≡◌, arith}
use Rattle.std.proofs.lemmas.Fmt.{decimal_injective}
use Rattle.lr_schedule.proofs.read.read_moment.Goals as goal

pub returns-then-moment-gt-LAST_MOMENT-clause-none :
    goal.returns-then-moment-gt-LAST_MOMENT-clause-none
returns-then-moment-gt-LAST_MOMENT-clause-none c = λ _ moment rest within is.
    let read = c.in_ok-moment.ensures.some in
    let same : c.in_ok-moment.moment ≡ moment =
    decimal_injective c.in_ok-moment.moment moment (omega arith) (omega arith) cc in
    absurd (omega arith)
