use Rattle.std.proofs.Common.{None, pos, ap, ◌∙◌}
use Rattle.std.specs.Option.{unwrap_or}
use Rattle.std.specs.Result.{result_unwrap_or}
use Rattle.lr_keys.specs.KeySpace.{entry_at, field_at}
use Rattle.lr_rw.proofs.LookLemmas.{count-found}
use Rattle.lr_rw.proofs.holds.hold_count.Goals as goal

pub returns-clause-count : goal.returns-clause-count
returns-clause-count c = λ holds at.
    let entry = entry_at c.args.keys.now c.args.lock.now.counts in
    count-found c.args.keys.now c.args.lock.now.counts c.args.lock.now.deadlines holds at
    c.args.owner.now c.args.access c.member.ensures.owner c.unwrap_or-2.result c.max.result
    (c.unwrap_or-2.ensures
    ∙ ap (λ o. unwrap_or o (pos 0)) (c.unwrap_or.ensures
    ∙ ap (λ r. result_unwrap_or r None) (c.hget-count.ensures
    ∙ ap (λ t. field_at t entry) c.member.ensures.text)))
    c.max.ensures.value
