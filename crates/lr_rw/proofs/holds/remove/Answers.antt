use Rattle.std.proofs.Common.{◌<◌, sym, ap, ◌∙◌, subst}
use Rattle.lr_keys.specs.KeySpace.{count_at, entry_at, entry_without_field, entry_without_member, found_in}
use Rattle.lr_keys.proofs.SortedKeyLaws.{changed-here, member-fewer}
use Rattle.lr_rw.proofs.ChangeLemmas.{removed, removed-other}
use Rattle.lr_rw.proofs.holds.remove.Goals as goal

pub returns-clause-removed : goal.returns-clause-removed
returns-clause-removed c = λ holds owner access hold at in_owner text found.
    let first = c.zrem-removed.ensures in
    let second = c.hdel-deleted.ensures in
    removed c.args.keys.now c.zrem-removed.new.self c.hdel-deleted.new.self c.args.lock.now.counts
    c.args.lock.now.deadlines c.requires.apart holds at owner access hold in_owner c.args.member.now
    text found c.zrem-removed.result c.hdel-deleted.result first.answer first.removed first.absent
    second.answer second.removed second.absent

pub returns-clause-fewer : goal.returns-clause-fewer
returns-clause-fewer c = λ score there.
    let keys = c.args.keys.now in
    let deadlines = c.args.lock.now.deadlines in
    let member = c.args.member.now in
    let first = c.zrem-removed.ensures in
    let second = c.hdel-deleted.ensures in
    subst (λ e. count_at e < count_at (entry_at keys deadlines))
    (sym (removed-other c.zrem-removed.new.self c.hdel-deleted.new.self c.args.lock.now.counts
    deadlines (entry_without_field member) c.hdel-deleted.result second.removed second.absent
    c.requires.apart
    ∙ changed-here keys c.zrem-removed.new.self deadlines (entry_without_member member)
    (first.removed (first.answer ∙ ap found_in there))))
    (member-fewer member (entry_at keys deadlines) score there)
