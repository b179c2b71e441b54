use Rattle.std.proofs.Common.{◌≡◌, Option, IfSome, Ok, Some, None, ℕ, sym, subst, ap, ◌∙◌, arith}
use Rattle.std.specs.Result.{result_unwrap_or}
use Rattle.lr_sorted.specs.Members.{Scored}
use Rattle.lr_keys.specs.KeySpace.{entry_at, score_at}
use Rattle.lr_keys.proofs.SortedKeyLaws.{first-there}
use Rattle.lr_fair.proofs.ChangeLemmas.{first-member}
use Rattle.lr_fair.proofs.StaleLaws.{first-stale, no-first, none-stale}
use Rattle.lr_fair.proofs.stale.stale_place.Goals as goal

pub returns-in_err-first-clause-none : goal.returns-in_err-first-clause-none
returns-in_err-first-clause-none c = λ same queue at.
    let keys = c.args.keys.now in
    no-first queue at.are keys.moment
    (sym (first-member (entry_at keys c.args.lock.now.queue) (entry_at keys c.args.lock.now.stales)
    queue at)
    ∙ sym (c.unwrap_or.ensures ∙ ap (λ r. result_unwrap_or r None) c.zindex.ensures)
    ∙ c.in_err-first.was)

pub returns-then-first-moment-clause-none : goal.returns-then-first-moment-clause-none
returns-then-first-moment-clause-none c = λ same queue at.
    let keys = c.args.keys.now in
    none-stale queue at.are keys.moment c.in_ok-first.first
    (sym (first-member (entry_at keys c.args.lock.now.queue) (entry_at keys c.args.lock.now.stales)
    queue at)
    ∙ sym (c.unwrap_or.ensures ∙ ap (λ r. result_unwrap_or r None) c.zindex.ensures)
    ∙ c.in_ok-first.was) (omega arith)

pub returns-clause-some : goal.returns-clause-some
returns-clause-some c = λ queue at.
    let keys = c.args.keys.now in
    first-stale queue at.are keys.moment c.in_ok-first.first
    (sym (first-member (entry_at keys c.args.lock.now.queue) (entry_at keys c.args.lock.now.stales)
    queue at)
    ∙ sym (c.unwrap_or.ensures ∙ ap (λ r. result_unwrap_or r None) c.zindex.ensures)
    ∙ c.in_ok-first.was) (omega arith)

pub returns-clause-there : goal.returns-clause-there
returns-clause-there c =
    let entry = entry_at c.args.keys.now c.args.lock.now.stales in
    subst (λ (found : Option Scored). IfSome found
    (λ first. (score : ℕ) × (score_at first.0 entry ≡ Ok (Some score))))
    (sym (c.unwrap_or.ensures ∙ ap (λ r. result_unwrap_or r None) c.zindex.ensures)
    ∙ c.in_ok-first.was)
    (first-there entry)
