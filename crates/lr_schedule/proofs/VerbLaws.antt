-- The words of the verbs.
use Rattle.std.proofs.Common.{◌≡◌, List, ℕ, IsTrue, Some, unwrap_or, refl, ap}
use Rattle.lr_text.specs.Words.{lacks}
use Rattle.lr_text.specs.WordTable.{with_word}
use Rattle.lr_text.proofs.WordTableLaws.{IsWordTable, word_of-injective}
use Rattle.lr_schedule.specs.Spelled.{verb_word}
use Rattle.lr_schedule.specs.declared.verb.ThreadVerb.TheVariants.{Ask}
use Rattle.lr_schedule.specs.declared.verb.ClientVerb.TheVariants.{Sub}
use Rattle.lr_schedule.specs.declared.verb.RenewVerb.TheVariants as renew_verbs
use Rattle.lr_schedule.specs.declared.verb.Verb.{Verb}
use Rattle.lr_schedule.specs.declared.verb.Verb.TheVariants.{Begin, Thread, Client, Renew}
use Rattle.lr_schedule.specs.declared.verb.TheConstants.Verb.{ALL}

-- a verb is found by its word, which has no space
abbrev HasWord : Verb → Type 0
HasWord verb =
    (with_word verb_word ALL (verb_word verb) ≡ Some verb) × IsTrue (lacks 32 (verb_word verb))

-- each verb has one: by computing, with a line for each group
has_word : (verb : Verb) → HasWord verb
has_word Begin = (refl, refl)
has_word (Thread Ask) = (refl, refl)
has_word (Client Sub) = (refl, refl)
has_word (Renew renew_verbs.Ask) = (refl, refl)
has_word _ = (refl, refl)

pub IsWordTable-verb_word : IsWordTable verb_word ALL
IsWordTable-verb_word verb = (has_word verb).0

pub verb_word-lacks : (verb : Verb) → IsTrue (lacks 32 (verb_word verb))
verb_word-lacks verb = (has_word verb).1

pub verb_word-injective : (a b : Verb) → verb_word a ≡ verb_word b → a ≡ b
verb_word-injective = word_of-injective verb_word ALL IsWordTable-verb_word

-- the verb of a word
pub verb_with : List ℕ → Verb
verb_with word = unwrap_or (with_word verb_word ALL word) Begin

pub verb_with-verb_word : (verb : Verb) → verb_with (verb_word verb) ≡ verb
unfolding verb_with
verb_with-verb_word verb = ap (λ o. unwrap_or o Begin) (IsWordTable-verb_word verb)
