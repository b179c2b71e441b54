use Rattle.std.proofs.Common.{arith}
use Rattle.std.proofs.lemmas.Grind.{common_steps}
use Rattle.lr_expiry.proofs.TreeLemmas.{root_least}
use Rattle.lr_expiry.proofs.expiries.Expiries.first.Goals as goal

pub returns-clause-least : goal.returns-clause-least
returns-clause-least c = λ place h. grind (arith, common_steps, root_least)
