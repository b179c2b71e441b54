use Rattle.std.proofs.Common.{sym, ◌∙◌, arith}
use Rattle.lr_expirable.proofs.ChangeLemmas.{first-gone, none-gone, none-there}
use Rattle.lr_expirable.proofs.expired.expired.Goals as goal

pub returns-in_err-first-clause-none : goal.returns-in_err-first-clause-none
returns-in_err-first-clause-none c = λ same members stands order.
    none-there members c.args.keys.now.moment
    (sym (c.first_lease.ensures.first members stands) ∙ c.in_err-first.was)

pub returns-then-first-moment-clause-none : goal.returns-then-first-moment-clause-none
returns-then-first-moment-clause-none c = λ same members stands order.
    none-gone members c.args.keys.now.moment c.in_ok-first.first order
    (sym (c.first_lease.ensures.first members stands) ∙ c.in_ok-first.was) (omega arith)

pub returns-clause-some : goal.returns-clause-some
returns-clause-some c = λ members stands.
    first-gone members c.args.keys.now.moment c.in_ok-first.first
    (sym (c.first_lease.ensures.first members stands) ∙ c.in_ok-first.was) (omega arith)
