use Rattle.std.proofs.Common.{◌≡◌, ℕ, false, Ok, Option, Some, None, is_some, refl, sym, ap, ◌∙◌, true≢false}
use Rattle.lr_keys.specs.KeySpace.{entry_at}
use Rattle.lr_keys.proofs.SlotLemmas.{is_new_member-full}
use Rattle.lr_keys.proofs.key_space.KeySpace.zadd.Goals as goal

not_some : (o : Option ℕ) → is_some o ≡ false → o ≡ None
not_some None e = refl
not_some (Some n) e = absurd (true≢false e)

pub returns-then-not-takes_member-clause-answer : goal.returns-then-not-takes_member-clause-answer
returns-then-not-takes_member-clause-answer c =
    let none = not_some c.in_ok-zscore.field-0 (sym c.is_some.ensures ∙ c.if-is_some.false) in
    is_new_member-full c.args.member.now (entry_at c.args.self.now c.args.key.now)
    (sym c.zscore.ensures ∙ c.in_ok-zscore.was ∙ ap Ok none)
    (sym c.takes_member.ensures ∙ c.if-not-takes_member.true)
