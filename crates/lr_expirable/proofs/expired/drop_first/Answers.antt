use Rattle.std.proofs.Common.{◌<◌, sym, ap, ◌∙◌, subst}
use Rattle.lr_keys.specs.KeySpace.{count_at, entry_at, entry_without_member, found_in}
use Rattle.lr_expirable.proofs.ChangeLemmas.{first-dropped}
use Rattle.lr_keys.proofs.SortedKeyLaws.{changed-here, member-fewer}
use Rattle.lr_expirable.proofs.expired.drop_first.Goals as goal

pub returns-clause-dropped : goal.returns-clause-dropped
returns-clause-dropped c = λ deadline rest stands.
    let call = c.zrem-removed.ensures in
    first-dropped c.args.keys.now c.zrem-removed.new.self c.args.key.now c.args.member.now deadline
    rest stands c.zrem-removed.result call.answer call.removed

pub returns-clause-fewer : goal.returns-clause-fewer
returns-clause-fewer c = λ score there.
    let keys = c.args.keys.now in
    let key = c.args.key.now in
    let member = c.args.member.now in
    let call = c.zrem-removed.ensures in
    subst (λ e. count_at e < count_at (entry_at keys key))
    (sym (changed-here keys c.zrem-removed.new.self key (entry_without_member member)
    (call.removed (call.answer ∙ ap found_in there))))
    (member-fewer member (entry_at keys key) score there)
