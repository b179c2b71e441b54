use Rattle.lr_text.proofs.WordTableLaws.{with_word-some, with_word-none}
use Rattle.lr_names.specs.Channel.{kind_word}
use Rattle.lr_names.specs.declared.kind.TheConstants.Kind.{ALL}
use Rattle.lr_names.proofs.KindLaws.{IsWordTable-kind_word}
use Rattle.lr_names.proofs.kind.Kind.of_word.Goals as goal

pub returns-clause-some : goal.returns-clause-some
returns-clause-some c = rw c.search.ensures (with_word-some kind_word ALL c.args.word.now)

pub returns-clause-none : goal.returns-clause-none
returns-clause-none c =
    rw c.search.ensures (with_word-none kind_word ALL IsWordTable-kind_word c.args.word.now)
