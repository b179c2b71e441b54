use Rattle.lr_text.proofs.WordTableLaws.{with_word-some, with_word-none}
use Rattle.lr_requests.specs.Case.{lower}
use Rattle.lr_requests.specs.declared.command.TheConstants.Command.{ALL}
use Rattle.lr_requests.proofs.CommandLaws.{small_word, IsWordTable-small_word}
use Rattle.lr_requests.proofs.command.Command.of_word.Goals as goal

pub returns-clause-some : goal.returns-clause-some
returns-clause-some c =
    rw c.search.ensures (with_word-some small_word ALL (lower c.args.word.now))

pub returns-clause-none : goal.returns-clause-none
returns-clause-none c =
    rw c.search.ensures
    (with_word-none small_word ALL IsWordTable-small_word (lower c.args.word.now))
