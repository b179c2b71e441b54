use Rattle.std.proofs.Common.{false, sym, ap, ◌∙◌}
use Rattle.std.specs.Result.{result_unwrap_or}
use Rattle.lr_keys.specs.KeySpace.{entry_at}
use Rattle.lr_expirable.proofs.ChangeLemmas.{found-lease, kept_so, removed, removed_so}
use Rattle.lr_expirable.proofs.leases.remove.Goals as goal

pub returns-clause-found : goal.returns-clause-found
returns-clause-found c = λ leases id at in_id text.
    found-lease (entry_at c.args.keys.now c.args.key.now) leases at id in_id c.args.member.now text
    c.unwrap_or.result
    (c.unwrap_or.ensures ∙ ap (λ r. result_unwrap_or r false) c.zrem.ensures.answer)

pub returns-clause-removed : goal.returns-clause-removed
returns-clause-removed c = λ is leases id at in_id text.
    removed c.args.keys.now c.zrem.new.self c.args.key.now leases at id in_id c.args.member.now text
    (c.zrem.ensures.removed (removed_so c.zrem.result (sym c.unwrap_or.ensures ∙ is)))

pub returns-clause-kept : goal.returns-clause-kept
returns-clause-kept c = λ is.
    c.zrem.ensures.absent (kept_so c.zrem.result (sym c.unwrap_or.ensures ∙ is))
