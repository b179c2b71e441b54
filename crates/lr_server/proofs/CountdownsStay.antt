-- What stays of countdown latches where a function of another kind runs.
use Rattle.std.proofs.Common.{◌≡◌, ℕ, List, [], sym, subst}
use Rattle.lr_names.specs.Key.{key_text}
use Rattle.lr_names.specs.declared.kind.Kind.TheVariants.{Countdown}
use Rattle.lr_names.specs.declared.part.Part.TheVariants as parts
use Rattle.lr_keys.specs.KeySpace.{Keys}
use Rattle.lr_model.specs.Answer.{Objects}
use Rattle.lr_countdown.specs.Stands.{CountdownsStand}
use Rattle.lr_countdown.proofs.StandsLaws.{countdowns_stand_later}
use Rattle.lr_server.proofs.KindLaws.{first_among}
use Rattle.lr_server.proofs.KindsLater.{KindGoesOn}

-- the keys still stand for the same ones
pub stay : (old new : Keys) (objects objects2 : Objects) → KindGoesOn Countdown old new
    → objects2.countdowns ≡ objects.countdowns
    → CountdownsStand old objects → CountdownsStand new objects2
stay old new objects objects2 goes_on same stands =
    let at : Objects → (List ℕ → ℕ) → Objects =
    λ o countdowns. record o { countdowns = countdowns } in
    let later : CountdownsStand new objects =
    countdowns_stand_later old new objects stands goes_on.later goes_on.early
    (λ name named. let key = key_text parts.Countdown name in
    goes_on.live name key named (first_among key [])) in
    subst (λ (countdowns : List ℕ → ℕ). CountdownsStand new (at objects countdowns))
    (sym same) later
