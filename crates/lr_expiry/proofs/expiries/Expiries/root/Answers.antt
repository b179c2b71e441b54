use Rattle.std.proofs.Common.{arith}
use Rattle.std.proofs.lemmas.Grind.{common_steps}
use Rattle.lr_expiry.proofs.TreeLemmas.{root_least}
use Rattle.lr_expiry.proofs.expiries.Expiries.root.Goals as goal

pub returns : goal.returns
returns c = λ place h. grind (arith, common_steps, root_least)
