use Rattle.lr_text.proofs.WordTableLaws.{with_word-some, with_word-none}
use Rattle.lr_replies.specs.Shapes.{refusal_text}
use Rattle.lr_replies.specs.declared.refusal.TheConstants.Refusal.{ALL}
use Rattle.lr_replies.proofs.RefusalLaws.{IsWordTable-refusal_text}
use Rattle.lr_replies.proofs.refusal.Refusal.of_text.Goals as goal

pub returns-clause-some : goal.returns-clause-some
returns-clause-some c = rw c.search.ensures (with_word-some refusal_text ALL c.args.text.now)

pub returns-clause-none : goal.returns-clause-none
returns-clause-none c =
    rw c.search.ensures
    (with_word-none refusal_text ALL IsWordTable-refusal_text c.args.text.now)
