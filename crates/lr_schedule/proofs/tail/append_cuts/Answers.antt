use Rattle.std.proofs.Common.{◌≡◌, ℕ, List, [], ◌∷◌, ◌++◌, map, codes, decimal, refl, ap, arith}
use Rattle.std.proofs.lemmas.Grind.{common_steps}
use Rattle.std.specs.List.{flat_map}
use Rattle.lr_machine.specs.Clients.{client_at}
use Rattle.lr_machine.specs.Transcript.{cut_text}
use Rattle.lr_schedule.proofs.tail.append_cuts.Goals as goal

-- by the connections, piece by piece
cut_text-pieces : (connections : List ℕ) → cut_text (map client_at connections)
    ≡ flat_map (λ connection. codes " cut " ++ decimal (client_at connection)) connections
cut_text-pieces [] = refl
cut_text-pieces (c ∷ connections) =
    ap (λ more. codes " cut " ++ decimal (client_at c) ++ more) (cut_text-pieces connections)

pub returns-clause-ok : goal.returns-clause-ok
returns-clause-ok c = rw (cut_text-pieces c.args.connections.now) (grind (arith, common_steps))
