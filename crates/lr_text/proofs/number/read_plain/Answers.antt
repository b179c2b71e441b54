use Rattle.lr_text.proofs.NumberLaws.{parses_some, parses_none}
use Rattle.lr_text.proofs.number.read_plain.Goals as goal

pub returns-clause-some : goal.returns-clause-some
returns-clause-some c =
    rw c.ok.ensures.value (parses_some c.args.text.now c.parse.result c.parse.ensures.value.0 c.requires.no_sign c.requires.no_zeros)

pub returns-clause-none : goal.returns-clause-none
returns-clause-none c =
    rw c.ok.ensures.value (parses_none c.args.text.now c.parse.result c.parse.ensures.value.0 c.requires.no_sign)
