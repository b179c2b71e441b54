use Rattle.std.proofs.Common.{◌≡◌, refl, sym, subst, ◌∙◌, arith}
use Rattle.lr_model.specs.ReadWrite.{ReadWriteLock, live_holds}
use Rattle.lr_rw.proofs.EndLaws.{first-expired, no-first, none-expired}
use Rattle.lr_rw.proofs.expired.expired.Goals as goal

pub returns-in_err-first-clause-none : goal.returns-in_err-first-clause-none
returns-in_err-first-clause-none c = λ same holds at.
    subst (λ (l : ReadWriteLock). live_holds c.args.keys.now.moment l ≡ l)
    (sym (no-first holds at.is
    (sym (c.first_hold.ensures.first holds at) ∙ c.in_err-first.was))) refl

pub returns-then-first-moment-clause-none : goal.returns-then-first-moment-clause-none
returns-then-first-moment-clause-none c = λ same holds at.
    none-expired holds at.is c.args.keys.now.moment c.in_ok-first.first
    (sym (c.first_hold.ensures.first holds at) ∙ c.in_ok-first.was) (omega arith)

pub returns-clause-some : goal.returns-clause-some
returns-clause-some c = λ holds at.
    first-expired holds at.is c.args.keys.now.moment c.in_ok-first.first
    (sym (c.first_hold.ensures.first holds at) ∙ c.in_ok-first.was) (omega arith)
