use Rattle.lr_text.proofs.WordTableLaws.{with_word-some, with_word-none}
use Rattle.lr_schedule.specs.Spelled.{verb_word}
use Rattle.lr_schedule.specs.declared.verb.TheConstants.Verb.{ALL}
use Rattle.lr_schedule.proofs.VerbLaws.{IsWordTable-verb_word}
use Rattle.lr_schedule.proofs.verb.Verb.of_word.Goals as goal

pub returns-clause-some : goal.returns-clause-some
returns-clause-some c = rw c.search.ensures (with_word-some verb_word ALL c.args.word.now)

pub returns-clause-none : goal.returns-clause-none
returns-clause-none c =
    rw c.search.ensures (with_word-none verb_word ALL IsWordTable-verb_word c.args.word.now)
