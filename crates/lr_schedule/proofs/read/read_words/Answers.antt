use Rattle.std.proofs.Common.{refl, sym, ◌∙◌, ◌∷◌, append-nil}
use Rattle.lr_schedule.specs.Spelled.{verb_word, verb_of, more_words}
use Rattle.lr_schedule.proofs.SpelledLaws.{spelled-whole}
use Rattle.lr_schedule.proofs.read.read_words.Goals as goal

-- what was read is all that the words can spell, so that no word may stand behind it
pub returns-in_err-end-clause-none : goal.returns-in_err-end-clause-none
returns-in_err-end-clause-none c = λ _ s h.
    let read = c.in_ok-spelled.ensures.some in
    let words = verb_word (verb_of s) ∷ more_words s in
    let same = sym read.text ∙ h.text ∙ append-nil words in
    c.in_err-end.ensures.none refl
    (spelled-whole c.in_ok-spelled.spelled s _ read.can h.can same)
