use Rattle.std.proofs.Common.{ap, ◌∙◌}
use Rattle.lr_text.specs.Words.{words_of}
use Rattle.lr_text.proofs.WordLaws.{words_of-some, words_of-are_words, words_of-joined, joined-words_of}
use Rattle.lr_text.proofs.words.Words.new.Goals as goal

pub returns-clause-each : goal.returns-clause-each
returns-clause-each c = rw c.start.ensures (words_of-are_words c.args.line.now)

pub returns-clause-some : goal.returns-clause-some
returns-clause-some c = rw c.start.ensures (words_of-some c.args.line.now)

pub returns-clause-line : goal.returns-clause-line
returns-clause-line c = rw c.start.ensures (joined-words_of c.args.line.now)

pub returns-clause-alone : goal.returns-clause-alone
returns-clause-alone c = λ word rest h is. c.start.ensures ∙ ap words_of is ∙ words_of-joined word rest h
