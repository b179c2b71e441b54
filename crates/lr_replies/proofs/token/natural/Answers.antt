use Rattle.std.proofs.Common.{ap, sym, ◌∙◌}
use Rattle.lr_resp.specs.Spelling.{spelling}
use Rattle.lr_replies.proofs.Spellings.{no_natural}
use Rattle.lr_replies.proofs.token.natural.Goals as goal

pub returns-in-Number-clause-none : goal.returns-in-Number-clause-none
returns-in-Number-clause-none c none n small is =
    no_natural c.in-Number.number (c.natural.ensures.none none) n small
    (sym (ap spelling c.in-Number.is) ∙ is)
