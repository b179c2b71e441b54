use Rattle.std.proofs.Common.{◌<◌, sym, ap, ◌∙◌, subst}
use Rattle.lr_keys.specs.KeySpace.{count_at, entry_at, entry_without_member, found_in}
use Rattle.lr_keys.proofs.SortedKeyLaws.{changed-here, member-fewer}
use Rattle.lr_fair.proofs.ChangeLemmas.{items-other, removed}
use Rattle.lr_fair.proofs.places.remove.Goals as goal

pub returns-clause-removed : goal.returns-clause-removed
returns-clause-removed c = λ queue owner at in_owner is.
    let first = c.zrem-removed.ensures in
    let second = c.lrem-items.ensures in
    removed c.args.keys.now c.args.lock.now.queue c.args.lock.now.stales c.requires.apart queue at
    owner in_owner c.args.text.now is c.zrem-removed.new.self c.lrem-items.new.self
    c.zrem-removed.result c.lrem-items.result first.answer first.removed first.absent second.answer
    second.removed second.none

pub returns-clause-fewer : goal.returns-clause-fewer
returns-clause-fewer c = λ score there.
    let keys = c.args.keys.now in
    let stales = c.args.lock.now.stales in
    let text = c.args.text.now in
    let first = c.zrem-removed.ensures in
    let second = c.lrem-items.ensures in
    subst (λ e. count_at e < count_at (entry_at keys stales))
    (sym (items-other c.zrem-removed.new.self c.lrem-items.new.self c.args.lock.now.queue stales
    c.requires.apart text c.lrem-items.result second.removed second.none second.refused
    ∙ changed-here keys c.zrem-removed.new.self stales (entry_without_member text)
    (first.removed (first.answer ∙ ap found_in there))))
    (member-fewer text (entry_at keys stales) score there)
