use Rattle.lr_text.proofs.WordTableLaws.{with_word-some, with_word-none}
use Rattle.lr_machine.specs.EventText.{watch_word}
use Rattle.lr_schedule.specs.declared.kind.TheConstants.{WATCH_KINDS}
use Rattle.lr_schedule.proofs.KindLaws.{IsWordTable-watch_word}
use Rattle.lr_schedule.proofs.kind.kind_of_word.Goals as goal

pub returns-clause-some : goal.returns-clause-some
returns-clause-some c =
    rw c.search.ensures (with_word-some watch_word WATCH_KINDS c.args.word.now)

pub returns-clause-none : goal.returns-clause-none
returns-clause-none c =
    rw c.search.ensures
    (with_word-none watch_word WATCH_KINDS IsWordTable-watch_word c.args.word.now)
