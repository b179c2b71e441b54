use Rattle.std.proofs.Common.{Ok, sym, ap, ◌∙◌}
use Rattle.lr_keys.specs.KeySpace.{entry_at}
use Rattle.lr_keys.proofs.SlotLemmas.{field_after_increment-full}
use Rattle.lr_keys.proofs.key_space.KeySpace.hincrby.Goals as goal

pub returns-then-not-takes_member-clause-answer : goal.returns-then-not-takes_member-clause-answer
returns-then-not-takes_member-clause-answer c =
    field_after_increment-full c.args.field.now c.args.by
    (entry_at c.args.self.now c.args.key.now)
    (sym c.hget.ensures ∙ c.in_ok-number.was ∙ ap Ok c.in_default.is)
    (sym c.takes_member.ensures ∙ c.if-not-takes_member.true)
