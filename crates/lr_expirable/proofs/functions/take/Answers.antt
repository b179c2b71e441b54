use Rattle.std.proofs.Common.{◌+◌, ◌-◌, ◌<◌, is_some, ◌∷◌, length, sym, ap, subst, ◌∙◌, arith}
use Rattle.lr_limits.specs.Limits.{member_limit}
use Rattle.lr_keys.specs.declared.value_kind.ValueKind.TheVariants.{Zset}
use Rattle.lr_keys.specs.KeySpace.{IsPrepared, entry_at}
use Rattle.lr_keys.proofs.TableLaws.{bytes_eq-other}
use Rattle.lr_expirable.specs.Leases.{AreLeasesAt}
use Rattle.lr_expirable.proofs.StepLemmas.{busy_step, deadline_early, granted_step, in_use_step, many_step, not_there}
use Rattle.lr_expirable.proofs.functions.take.Goals as goal

pub returns-then-is_some-clause-step : goal.returns-then-is_some-clause-step
returns-then-is_some-clause-step c = λ object at live ready.
    let number_key = c.args.permits.now.number in
    let leases_key = c.args.permits.now.leases in
    let keys = c.args.keys.now in
    let id = c.args.id.now in
    let brief = c.id_brief-member.ensures in
    let is = sym (c.number_at.ensures.number object.number at.number_at.stands) ∙ c.in-Some.is in
    let found = c.is_some.ensures
    ∙ ap is_some (c.deadline_under.ensures object.leases id at.leases_at brief.id brief.text) in
    in_use_step keys number_key leases_key object at keys.moment id c.args.lease c.in-Some.number is
    (sym found ∙ c.if-is_some.true)

pub returns-then-taken-number-clause-step : goal.returns-then-taken-number-clause-step
returns-then-taken-number-clause-step c = λ object at live ready.
    let number_key = c.args.permits.now.number in
    let leases_key = c.args.permits.now.leases in
    let keys = c.args.keys.now in
    let id = c.args.id.now in
    let brief = c.id_brief-member.ensures in
    let is = sym (c.number_at.ensures.number object.number at.number_at.stands) ∙ c.in-Some.is in
    let found = c.is_some.ensures
    ∙ ap is_some (c.deadline_under.ensures object.leases id at.leases_at brief.id brief.text) in
    let none = not_there keys number_key leases_key object at keys.moment id c.args.lease
    (sym found ∙ c.if-is_some.false) in
    let all = c.len-taken.ensures object.leases at.leases_at in
    let least = c.least_deadline-deadline.ensures object.leases at.leases_at in
    busy_step keys number_key leases_key object at keys.moment id c.args.lease c.in-Some.number is none
    (omega (arith, all, c.if-taken-number.true)) live c.remaining.result
    (λ ahead early. c.remaining.ensures (omega (arith, least, ahead)) (omega (arith, least, early))
    ∙ ap (λ d. d - keys.moment) least)

pub returns-then-taken-clause-step : goal.returns-then-taken-clause-step
returns-then-taken-clause-step c = λ object at live ready.
    let number_key = c.args.permits.now.number in
    let leases_key = c.args.permits.now.leases in
    let keys = c.args.keys.now in
    let id = c.args.id.now in
    let brief = c.id_brief-member.ensures in
    let is = sym (c.number_at.ensures.number object.number at.number_at.stands) ∙ c.in-Some.is in
    let found = c.is_some.ensures
    ∙ ap is_some (c.deadline_under.ensures object.leases id at.leases_at brief.id brief.text) in
    let none = not_there keys number_key leases_key object at keys.moment id c.args.lease
    (sym found ∙ c.if-is_some.false) in
    let all = c.len-taken.ensures object.leases at.leases_at in
    many_step keys number_key leases_key object at keys.moment id c.args.lease c.in-Some.number is none
    (omega (arith, all, c.if-taken-number.false)) (omega (arith, all, c.if-taken.true))

pub returns-clause-step : goal.returns-clause-step
returns-clause-step c = λ object at live ready.
    let number_key = c.args.permits.now.number in
    let leases_key = c.args.permits.now.leases in
    let keys = c.args.keys.now in
    let id = c.args.id.now in
    let brief = c.id_brief-member.ensures in
    let is = sym (c.number_at.ensures.number object.number at.number_at.stands) ∙ c.in-Some.is in
    let found = c.is_some.ensures
    ∙ ap is_some (c.deadline_under.ensures object.leases id at.leases_at brief.id brief.text) in
    let none = not_there keys number_key leases_key object at keys.moment id c.args.lease
    (sym found ∙ c.if-is_some.false) in
    let all = c.len-taken.ensures object.leases at.leases_at in
    let room : length object.leases < member_limit = omega (arith, all, c.if-taken.false) in
    let early = deadline_early keys.moment c.args.lease c.moment.ensures.live.moment c.requires.lease in
    let now = c.moment.ensures.moment in
    granted_step keys number_key leases_key object at keys.moment id c.args.lease c.in-Some.number is
    none (omega (arith, all, c.if-taken-number.false)) room c.add.new.keys
    (c.add.ensures.others number_key
    (bytes_eq-other leases_key number_key (λ e. c.requires.apart (sym e))))
    (subst (λ m. AreLeasesAt (entry_at c.add.new.keys leases_key)
    (record { id = id; deadline = m + c.args.lease } ∷ object.leases)) now
    (c.add.ensures.added object.leases id at.leases_at brief.id brief.text none room
    (omega (arith, now, early))
    (subst (λ t. IsPrepared keys leases_key Zset t) (sym brief.text) (ready none))))
