use Rattle.std.proofs.Common.{rules, ◌≡◌, ◌%◌, refl, ap, ◌∙◌, arith, false}
use Rattle.lr_turnstile.specs.Rule.{occupied}
use Rattle.lr_turnstile.proofs.Moves.{look_goes, take_goes, top}
use Rattle.lr_turnstile.proofs.gate.Gate.try_enter.Goals as goal

pub load-word-requires : goal.load-word-requires
load-word-requires g c =
    (search rules, search rules, look_goes g.V.Kept.stands _ _ _ c.args.pass.now.not_spent)

pub compare_exchange-found-requires : goal.compare_exchange-found-requires
compare_exchange-found-requires g c =
    let l = c.load-word.ensures.2 in
    let live : c.load-word.new.seat.me.0.is_spent ≡ false =
    ap (λ v. v.is_spent) l.looked.view ∙ c.args.pass.now.not_spent in
    let even : c.load-word.result % 2 ≡ 0 = omega arith in
    (search rules, search rules, take_goes g.V.Kept.stands _ _ _ _ _ live even refl)

pub exchange-requires : goal.exchange-requires
exchange-requires g c =
    let taken = c.compare_exchange-found.ensures.2.taken c.if-found-word.false in
    (search rules, (occupied taken.value, top _ _ _ taken.slot))
