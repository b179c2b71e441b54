use Rattle.std.proofs.Common.{ap, ◌∙◌}
use Rattle.std.specs.Result.{result_unwrap_or}
use Rattle.lr_keys.specs.KeySpace.{entry_at}
use Rattle.lr_expirable.proofs.ChangeLemmas.{length-seen}
use Rattle.lr_expirable.proofs.leases.len.Goals as goal

pub returns : goal.returns
returns c = λ leases at.
    c.unwrap_or.ensures ∙ ap (λ r. result_unwrap_or r 0) c.zcard.ensures
    ∙ length-seen (entry_at c.args.keys.now c.args.key.now) leases at
