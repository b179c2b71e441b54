use Rattle.std.proofs.Common.{refl, sym, ap, ◌∙◌}
use Rattle.lr_text.specs.Words.{words_of}
use Rattle.lr_text.proofs.WordLaws.{words_of-more, words_of-word}
use Rattle.lr_text.proofs.words.Words.next.Goals as goal

pub returns-in-Some-clause-some : goal.returns-in-Some-clause-some
returns-in-Some-clause-some c =
    let word = c.in-Some.word.now in
    sym c.self.view_is ∙ rw c.if-self.false (ap words_of c.in-Some.ensures.some ∙ words_of-more word c.in-Some.rest.now c.in-Some.ensures.first)

pub returns-in-Some-clause-none : goal.returns-in-Some-clause-none
returns-in-Some-clause-none c =
    let is = returns-in-Some-clause-some c in
    (λ e. cc, λ e. cc)

pub returns-in-None-clause-some : goal.returns-in-None-clause-some
returns-in-None-clause-some c =
    sym c.self.view_is ∙ rw c.if-self.false (words_of-word c.self.inside.rest.now (c.in-None.ensures.none refl))

pub returns-in-None-clause-none : goal.returns-in-None-clause-none
returns-in-None-clause-none c =
    let is = returns-in-None-clause-some c in
    (λ e. cc, λ e. cc)
