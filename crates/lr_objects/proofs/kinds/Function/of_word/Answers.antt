use Rattle.lr_text.proofs.WordTableLaws.{with_word-some, with_word-none}
use Rattle.lr_objects.specs.Function.{function_word}
use Rattle.lr_objects.specs.declared.kinds.TheConstants.Function.{ALL}
use Rattle.lr_objects.proofs.FunctionLaws.{IsWordTable-function_word}
use Rattle.lr_objects.proofs.kinds.Function.of_word.Goals as goal

pub returns-clause-some : goal.returns-clause-some
returns-clause-some c = rw c.search.ensures (with_word-some function_word ALL c.args.word.now)

pub returns-clause-none : goal.returns-clause-none
returns-clause-none c =
    rw c.search.ensures (with_word-none function_word ALL IsWordTable-function_word c.args.word.now)
