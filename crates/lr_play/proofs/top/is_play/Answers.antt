use Rattle.std.proofs.Common.{List, ℕ, [], ◌∷◌, ◌∙◌, ap, arith}
use Rattle.lr_play.proofs.Ends.{one_word, only_word}
use Rattle.lr_play.proofs.top.is_play.Goals as goal

pub returns-in-len1 : goal.returns-in-len1
returns-in-len1 c =
    let word : List ℕ = c.word-item.result in
    let words = one_word c.args.words.now word (omega arith) (omega arith) c.word-item.is in
    (λ t. words ∙ ap (λ (l : List ℕ). l ∷ []) (c.is_word.ensures.0 t), λ e. c.is_word.ensures.1 (only_word c.args.words.now word _ words e))
