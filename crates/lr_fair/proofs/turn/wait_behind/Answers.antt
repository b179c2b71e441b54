use Rattle.std.proofs.Common.{ap, ◌∙◌, ◌∷◌, arith, ◌≡◌}
use Rattle.std.specs.Option.{unwrap_or}
use Rattle.lr_fair.proofs.TurnLemmas.{first-stale_of}
use Rattle.lr_fair.proofs.turn.wait_behind.Goals as goal

pub returns : goal.returns
returns c = λ place rest at owner_is ahead.
    let found = c.stale_of.ensures (place ∷ rest) at
    ∙ first-stale_of place rest c.args.first.now owner_is in
    let stale : c.unwrap_or-stale.result ≡ place.stale =
    c.unwrap_or-stale.ensures ∙ ap (λ o. unwrap_or o 0) found in
    omega (arith, stale, ahead)
