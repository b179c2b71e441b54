use Rattle.std.proofs.Common.{refl, sym, ◌∙◌}
use Rattle.lr_names.proofs.ChannelLaws.{fair-cut}
use Rattle.lr_names.proofs.channel.read_fair.Goals as goal

pub returns-in_err-name-2-clause-bad : goal.returns-in_err-name-2-clause-bad
returns-in_err-name-2-clause-bad c = λ _ channel h fair is.
    let cut = c.in_ok-name in
    let parts = fair-cut channel cut.name.now cut.owner.now h fair cut.ensures.first (sym cut.ensures.some ∙ is) in
    c.in_err-name-2.ensures.none refl (rw parts.0 h.name)

pub returns-in_err-owner-clause-bad : goal.returns-in_err-owner-clause-bad
returns-in_err-owner-clause-bad c = λ _ channel h fair is.
    let cut = c.in_ok-name in
    let parts = fair-cut channel cut.name.now cut.owner.now h fair cut.ensures.first (sym cut.ensures.some ∙ is) in
    c.in_err-owner.ensures.bad refl parts.1.0 parts.1.1 parts.1.2
