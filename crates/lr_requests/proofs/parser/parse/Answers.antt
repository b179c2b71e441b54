use Rattle.std.proofs.Common.{◌∷◌, refl, arith}
use Rattle.lr_requests.proofs.parser.parse.Goals as goal

pub returns-in-None-clause-fault : goal.returns-in-None-clause-fault
returns-in-None-clause-fault c = λ word arguments held.
    c.in-None.ensures.none refl (word ∷ arguments) held (omega arith)
