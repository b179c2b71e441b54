use Rattle.std.proofs.Common.{None, ap, ◌∙◌}
use Rattle.std.specs.Result.{result_unwrap_or}
use Rattle.lr_keys.specs.KeySpace.{entry_at}
use Rattle.lr_expirable.proofs.ChangeLemmas.{score_at-lease}
use Rattle.lr_expirable.proofs.leases.deadline_under.Goals as goal

pub returns : goal.returns
returns c = λ leases id at in_id text.
    c.unwrap_or.ensures
    ∙ ap (λ r. result_unwrap_or r None) (c.zscore.ensures
    ∙ score_at-lease (entry_at c.args.keys.now c.args.key.now) leases at id in_id
    c.args.member.now text)
