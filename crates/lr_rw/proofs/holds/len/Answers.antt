use Rattle.std.proofs.Common.{ap, ◌∙◌}
use Rattle.std.specs.Result.{result_unwrap_or}
use Rattle.lr_rw.proofs.ChangeLemmas.{length-seen}
use Rattle.lr_rw.proofs.holds.len.Goals as goal

pub returns : goal.returns
returns c = λ holds at.
    c.unwrap_or.ensures ∙ ap (λ r. result_unwrap_or r 0) c.zcard.ensures
    ∙ length-seen c.args.keys.now c.args.lock.now.counts c.args.lock.now.deadlines holds at
