use Rattle.std.proofs.Common.{None, sym, ap, ◌∙◌}
use Rattle.std.specs.Result.{result_unwrap_or}
use Rattle.lr_rw.proofs.ChangeLemmas.{last-some, last-none}
use Rattle.lr_rw.proofs.holds.last_deadline.Goals as goal

pub returns-in-Some : goal.returns-in-Some
returns-in-Some c = λ holds at.
    let found =
    sym (ap (λ r. result_unwrap_or r None) c.zindex.ensures) ∙ sym c.unwrap_or.ensures
    ∙ c.in-Some.is in
    last-some c.args.keys.now c.args.lock.now.counts c.args.lock.now.deadlines holds at _ found

pub returns-in-None : goal.returns-in-None
returns-in-None c = λ holds at.
    let found =
    sym (ap (λ r. result_unwrap_or r None) c.zindex.ensures) ∙ sym c.unwrap_or.ensures
    ∙ c.in-None.is in
    last-none c.args.keys.now c.args.lock.now.counts c.args.lock.now.deadlines holds at found
