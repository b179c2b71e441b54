use Rattle.std.proofs.Common.{None, refl, sym, ap, ◌∙◌}
use Rattle.std.specs.Result.{result_unwrap_or}
use Rattle.lr_keys.specs.KeySpace.{entry_at}
use Rattle.lr_fair.proofs.ChangeLemmas.{first-none, first-parsed, first-seen, first-unparsed}
use Rattle.lr_fair.proofs.places.first_owner.Goals as goal

pub returns-in_err-first : goal.returns-in_err-first
returns-in_err-first c = λ queue at.
    let keys = c.args.keys.now in
    c.from_residual.ensures
    ∙ first-none queue
    (sym (first-seen (entry_at keys c.args.lock.now.queue) (entry_at keys c.args.lock.now.stales) queue
    at)
    ∙ sym (c.unwrap_or.ensures ∙ ap (λ r. result_unwrap_or r None) c.lindex.ensures)
    ∙ c.in_err-first.was)

pub returns-in-Ok : goal.returns-in-Ok
returns-in-Ok c = λ queue at.
    let keys = c.args.keys.now in
    first-parsed queue at.are.owners c.in_ok-first.first
    (sym (first-seen (entry_at keys c.args.lock.now.queue) (entry_at keys c.args.lock.now.stales) queue
    at)
    ∙ sym (c.unwrap_or.ensures ∙ ap (λ r. result_unwrap_or r None) c.lindex.ensures)
    ∙ c.in_ok-first.was)
    c.in-Ok.owner c.in-Ok.ensures.owner (sym c.as_slice.ensures.value ∙ c.in-Ok.ensures.text)

pub returns-in-Err : goal.returns-in-Err
returns-in-Err c = λ queue at.
    let keys = c.args.keys.now in
    absurd (first-unparsed queue at.are.owners c.in_ok-first.first
    (sym (first-seen (entry_at keys c.args.lock.now.queue) (entry_at keys c.args.lock.now.stales) queue
    at)
    ∙ sym (c.unwrap_or.ensures ∙ ap (λ r. result_unwrap_or r None) c.lindex.ensures)
    ∙ c.in_ok-first.was)
    (λ owner in_owner same. c.in-Err.ensures.bad refl owner in_owner
    (c.as_slice.ensures.value ∙ same)))
