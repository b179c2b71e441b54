use Rattle.std.proofs.Common.{refl, sym, ap, subst, ◌∙◌, ◌∷◌, append-nil}
use Rattle.lr_text.specs.Words.{words_of, joined}
use Rattle.lr_machine.specs.EventText.{event_text, IsEvent}
use Rattle.lr_schedule.specs.Spelled.{verb_word, verb_of, more_words}
use Rattle.lr_schedule.proofs.EventLaws.{spelled_of, words_of-spelled}
use Rattle.lr_schedule.proofs.SpelledLaws.{event_words-of, can_spell}
use Rattle.lr_schedule.proofs.read.read_spelled.Goals as goal

pub returns-in-Ok-clause-text : goal.returns-in-Ok-clause-text
returns-in-Ok-clause-text c =
    let s = c.in-Ok.spelled in
    let whole = c.in-Ok.ensures.some.text ∙ append-nil (verb_word (verb_of s) ∷ more_words s) in
    sym c.new-reader.ensures.line ∙ ap joined (whole ∙ sym (event_words-of s))

pub returns-in-Ok-clause-event : goal.returns-in-Ok-clause-event
returns-in-Ok-clause-event c = (can_spell c.in-Ok.spelled).1 c.in-Ok.ensures.some.can

pub returns-in-Err-clause-none : goal.returns-in-Err-clause-none
returns-in-Err-clause-none c = λ _ event h is.
    let found = spelled_of event in
    let s = found.0 in
    let can = (can_spell s).0 (subst IsEvent (sym found.1) h) in
    let line = is ∙ ap event_text (sym found.1) in
    let words = c.new-reader.ensures.words ∙ ap words_of line ∙ words_of-spelled s can
    ∙ sym (append-nil (verb_word (verb_of s) ∷ more_words s)) in
    c.in-Err.ensures.none refl s (record { text = words; can = can })
