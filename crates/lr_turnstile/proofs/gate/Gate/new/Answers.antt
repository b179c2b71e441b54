use Rattle.std.proofs.Common.{[], ◌∷◌, ◌++◌, ap, ◌∙◌}
use Rattle.lr_turnstile.specs.Rule.{occupied}
use Rattle.lr_turnstile.proofs.Ends.{opens}
use Rattle.lr_turnstile.proofs.gate.Gate.new.Goals as goal

pub new-requires : goal.new-requires
new-requires g c = opens g.V.Kept.stands c.args.value _ c.requires
    (c.push_reserved.ensures.items
    ∙ ap (λ homes. homes ++ occupied c.args.value ∷ [])
    (c.reserve.ensures.items ∙ c.new-homes.ensures.items))
