-- What stays of fenced locks where a function of another kind runs.
use Rattle.std.proofs.Common.{◌≡◌, ℕ, List, [], ◌∷◌, sym, subst}
use Rattle.lr_names.specs.Key.{key_text}
use Rattle.lr_names.specs.declared.kind.Kind.TheVariants.{Fenced}
use Rattle.lr_names.specs.declared.part.Part.TheVariants as parts
use Rattle.lr_keys.specs.KeySpace.{Keys}
use Rattle.lr_model.specs.Fenced.{FencedLock}
use Rattle.lr_model.specs.Answer.{Objects}
use Rattle.lr_fenced.specs.Stands.{FencedLocksStand}
use Rattle.lr_fenced.proofs.StandsLaws.{fenced_locks_stand_later}
use Rattle.lr_server.proofs.KindLaws.{first_among, second_among}
use Rattle.lr_server.proofs.KindsLater.{KindGoesOn}

-- the keys still stand for the same ones
pub stay : (old new : Keys) (objects objects2 : Objects) → KindGoesOn Fenced old new
    → objects2.fenced_locks ≡ objects.fenced_locks
    → FencedLocksStand old objects → FencedLocksStand new objects2
stay old new objects objects2 goes_on same stands =
    let at : Objects → (List ℕ → FencedLock) → Objects =
    λ o fenced_locks. record o { fenced_locks = fenced_locks } in
    let later : FencedLocksStand new objects =
    fenced_locks_stand_later old new objects stands goes_on.later goes_on.early
    (λ name named. let key = key_text parts.Fenced name in
    goes_on.live name key named (first_among key (key_text parts.Token name ∷ [])))
    (λ name named. let key = key_text parts.Token name in
    goes_on.live name key named (second_among (key_text parts.Fenced name) key [])) in
    let stand : FencedLocksStand new (at objects objects2.fenced_locks) =
    subst (λ (locks : List ℕ → FencedLock). FencedLocksStand new (at objects locks)) (sym same)
    later in
    record { held = stand.held; tokens = stand.tokens }
