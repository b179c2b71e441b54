use Rattle.std.proofs.Common.{◌≡◌, List, ℕ, suc, ◌∷◌, length, sym, ap, ◌∙◌, arith}
use Rattle.lr_frames.specs.Given.{given_words}
use Rattle.lr_frames.specs.Shape.{shape_len}
use Rattle.lr_frames.proofs.GivenLaws.{are_words}
use Rattle.lr_frames.proofs.call.read_words.Goals as goal

pub returns-clause-words : goal.returns-clause-words
returns-clause-words c =
    let words = c.args.words.now in
    let given = c.in_ok-given.given in
    let fits : length words ≡ suc (shape_len c.of-shape.result) = omega (arith, c.len.ensures, c.len-2.ensures, c.if-len.false) in
    are_words c.of-shape.result words given fits c.in_ok-given.ensures.given
    ∙ ap (λ (l : List ℕ). l ∷ given_words c.of-shape.result given) (sym c.word.ensures ∙ sym c.in_ok-name.ensures.name.0)
    ∙ ap (λ s. c.in_ok-name.name ∷ given_words s given) c.of-shape.ensures
    ∙ sym c.said_op.ensures.words
