use Rattle.std.proofs.Common.{List, ℕ, ◌++◌, codes, refl, sym, ap, ◌∙◌}
use Rattle.lr_names.proofs.ChannelLaws.{channel_text-cut}
use Rattle.lr_names.proofs.channel.read_channel.Goals as goal

pub returns-in_err-of_word-clause-bad : goal.returns-in_err-of_word-clause-bad
returns-in_err-of_word-clause-bad c = λ _ channel h is.
    let cut = c.in_ok-word in
    let whole = ap (λ (l : List ℕ). codes "ch:" ++ l) (sym cut.ensures.some) ∙ sym c.in_ok-after_tag.ensures.some ∙ is in
    let parts = channel_text-cut channel cut.word.now cut.object.now cut.ensures.first whole in
    c.in_err-of_word.ensures.none refl channel.kind parts.0
