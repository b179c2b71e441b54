use Rattle.std.proofs.Common.{None, ap, ◌∙◌}
use Rattle.std.specs.Result.{result_unwrap_or}
use Rattle.lr_keys.specs.KeySpace.{entry_at}
use Rattle.lr_fair.proofs.ChangeLemmas.{stale-seen}
use Rattle.lr_fair.proofs.places.stale_of.Goals as goal

pub returns : goal.returns
returns c = λ queue at.
    let brief = c.brief.ensures in
    c.unwrap_or.ensures
    ∙ ap (λ r. result_unwrap_or r None) (c.zscore.ensures
    ∙ stale-seen (entry_at c.args.keys.now c.args.lock.now.queue)
    (entry_at c.args.keys.now c.args.lock.now.stales) queue at c.args.owner.now brief.owner
    c.brief.result brief.text)
