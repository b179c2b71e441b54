use Rattle.std.proofs.Common.{ap, ◌∙◌}
use Rattle.std.specs.Result.{result_unwrap_or}
use Rattle.lr_keys.specs.KeySpace.{entry_at}
use Rattle.lr_fair.proofs.ChangeLemmas.{length-seen}
use Rattle.lr_fair.proofs.places.len.Goals as goal

pub returns : goal.returns
returns c = λ queue at.
    c.unwrap_or.ensures
    ∙ ap (λ r. result_unwrap_or r 0) c.llen.ensures
    ∙ length-seen (entry_at c.args.keys.now c.args.lock.now.queue)
    (entry_at c.args.keys.now c.args.lock.now.stales) queue at
