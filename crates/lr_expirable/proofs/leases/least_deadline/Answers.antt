use Rattle.std.proofs.Common.{sym, ◌∙◌}
use Rattle.lr_expirable.specs.Leases.{in_order_of}
use Rattle.lr_expirable.proofs.LeaseLaws.{first-least, no-first}
use Rattle.lr_expirable.proofs.leases.least_deadline.Goals as goal

pub returns-in-Some : goal.returns-in-Some
returns-in-Some c = λ leases at.
    first-least leases _
    (sym (c.first_lease.ensures.first (in_order_of leases) at.stands) ∙ c.in-Some.is)

pub returns-in-None : goal.returns-in-None
returns-in-None c = λ leases at.
    sym (no-first leases
    (sym (c.first_lease.ensures.first (in_order_of leases) at.stands) ∙ c.in-None.is))
