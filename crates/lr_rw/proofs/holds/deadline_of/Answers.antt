use Rattle.std.proofs.Common.{None, ap, ◌∙◌}
use Rattle.std.specs.Result.{result_unwrap_or}
use Rattle.lr_keys.specs.KeySpace.{entry_at, score_at}
use Rattle.lr_rw.proofs.LookLemmas.{score_at-hold}
use Rattle.lr_rw.proofs.holds.deadline_of.Goals as goal

pub returns : goal.returns
returns c = λ holds access owner at in_owner text.
    let entry = entry_at c.args.keys.now c.args.lock.now.deadlines in
    c.unwrap_or.ensures
    ∙ ap (λ r. result_unwrap_or r None) (c.zscore.ensures ∙ ap (λ t. score_at t entry) text
    ∙ score_at-hold c.args.keys.now c.args.lock.now.counts c.args.lock.now.deadlines holds at owner
    access in_owner)
