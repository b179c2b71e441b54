use Rattle.std.proofs.Common.{ℕ, List, [], get_or, drop, refl, sym, ap, ◌∙◌}
use Rattle.lr_schedule.specs.Spelled.{verb_of}
use Rattle.lr_schedule.proofs.VerbLaws.{verb_word-injective}
use Rattle.lr_schedule.proofs.read.read_event.Goals as goal

pub returns-in_err-verb-clause-none : goal.returns-in_err-verb-clause-none
returns-in_err-verb-clause-none c = λ _ s rest h.
    c.in_err-verb.ensures.none refl (verb_of s) _ h.text

-- by the law of words, and not by a look at every two verbs
pub returns-clause-none : goal.returns-clause-none
returns-clause-none c = λ failed s rest h.
    let first : List (List ℕ) → List ℕ = λ words. get_or words 0 [] in
    let behind : List (List ℕ) → List (List ℕ) = λ words. drop 1 words in
    let read = sym c.in_ok-verb.ensures.some ∙ h.text in
    let same = verb_word-injective c.in_ok-verb.verb (verb_of s) (ap first read) in
    c.read_more.ensures.none failed s rest
    (record { verb_is = sym same; text = ap behind read; can = h.can })
