use Rattle.std.proofs.Common.{◌≡◌, ◌∙◌, sym, subst, ap, Some}
use mathlib.Core.Option.{some-injective}
use Rattle.lr_turnstile.proofs.Ends.{closes}
use Rattle.lr_turnstile.proofs.gate.Gate.close.Goals as goal

pub unreachable-requires : goal.unreachable-requires
unreachable-requires g c =
    let k = closes g.V.Kept.stands _ _ _ _ c.requires.alone c.requires.free.turn c.close_with-closed.ensures.values.2 in
    let e = some-injective _ _ (sym k.at ∙ c.take-value.ensures.value) in
    let n : Some k.value ≡ c.take-value.result.value = ap (λ home. home.value) e in
    let none = n ∙ c.in-None.is in cc

pub returns-clause-value : goal.returns-clause-value
returns-clause-value g c =
    let k = closes g.V.Kept.stands _ _ _ _ c.requires.alone c.requires.free.turn c.close_with-closed.ensures.values.2 in
    let e = some-injective _ _ (sym k.at ∙ c.take-value.ensures.value) in
    let n : Some k.value ≡ c.take-value.result.value = ap (λ home. home.value) e in
    let is = n ∙ c.in-Some.is in
    let same : k.value ≡ c.in-Some.value = cc in
    subst (λ x. g.V.Kept.stands x 0 c.args.pass.seat.me.0.seen) same k.it_stands

pub returns-clause-counted : goal.returns-clause-counted
returns-clause-counted g c = (closes g.V.Kept.stands _ _ _ _ c.requires.alone c.requires.free.turn c.close_with-closed.ensures.values.2).counted

pub returns-clause-made : goal.returns-clause-made
returns-clause-made g c = (closes g.V.Kept.stands _ _ _ _ c.requires.alone c.requires.free.turn c.close_with-closed.ensures.values.2).made

pub returns-clause-own : goal.returns-clause-own
returns-clause-own g c = (closes g.V.Kept.stands _ _ _ _ c.requires.alone c.requires.free.turn c.close_with-closed.ensures.values.2).own

pub returns-clause-joined : goal.returns-clause-joined
returns-clause-joined g c = (closes g.V.Kept.stands _ _ _ _ c.requires.alone c.requires.free.turn c.close_with-closed.ensures.values.2).joined
