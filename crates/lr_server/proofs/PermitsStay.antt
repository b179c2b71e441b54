-- What stays of expirable permits where a function of another kind runs.
use Rattle.std.proofs.Common.{◌≡◌, ℕ, List, [], ◌∷◌, sym, subst}
use Rattle.lr_names.specs.Key.{key_text}
use Rattle.lr_names.specs.declared.kind.Kind.TheVariants as kinds
use Rattle.lr_names.specs.declared.part.Part.TheVariants as parts
use Rattle.lr_keys.specs.KeySpace.{Keys}
use Rattle.lr_model.specs.Answer.{Objects}
use Rattle.lr_model.specs.Permits.{Permits}
use Rattle.lr_expirable.specs.Stands.{PermitsStand}
use Rattle.lr_expirable.proofs.StandsLaws.{permits_stand_later}
use Rattle.lr_server.proofs.KindLaws.{first_among, second_among}
use Rattle.lr_server.proofs.KindsLater.{KindGoesOn}

-- the keys still stand for the same ones
pub stay : (old new : Keys) (objects objects2 : Objects) → KindGoesOn kinds.Permits old new
    → objects2.permits ≡ objects.permits
    → PermitsStand old objects → PermitsStand new objects2
stay old new objects objects2 goes_on same stands =
    let at : Objects → (List ℕ → Permits) → Objects = λ o permits. record o { permits = permits } in
    let later : PermitsStand new objects =
    permits_stand_later old new objects stands
    (λ name named. let key = key_text parts.Permits name in
    goes_on.live name key named (first_among key (key_text parts.PermitLeases name ∷ [])))
    (λ name named. let key = key_text parts.PermitLeases name in
    goes_on.live name key named (second_among (key_text parts.Permits name) key [])) in
    let stand : PermitsStand new (at objects objects2.permits) =
    subst (λ (permits : List ℕ → Permits). PermitsStand new (at objects permits)) (sym same) later in
    record { each = stand.each }
