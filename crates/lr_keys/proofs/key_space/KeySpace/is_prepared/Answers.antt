use Rattle.std.proofs.Common.{sym, ap, ◌∙◌, Some, None}
use Rattle.lr_keys.specs.KeySpace.{is_plan_for}
use Rattle.lr_keys.proofs.SlotLemmas.{plan_at-read}
use Rattle.lr_keys.proofs.key_space.KeySpace.is_prepared.Goals as goal

pub returns-in-Some : goal.returns-in-Some
returns-in-Some c = c.is_for.ensures
    ∙ sym (ap (is_plan_for c.args.kind c.args.member.now)
    (plan_at-read c.self.inside c.args.self.now c.args.key.now
    (Some c.in-Some.spare.now) c.self.view_is c.in-Some.ensures.value))

pub returns-in-None : goal.returns-in-None
returns-in-None c = sym (ap (is_plan_for c.args.kind c.args.member.now)
    (plan_at-read c.self.inside c.args.self.now c.args.key.now None c.self.view_is
    c.in-None.ensures.value))
