-- What stays of fair locks where a function of another kind runs.
use Rattle.std.proofs.Common.{◌≡◌, ℕ, List, [], ◌∷◌, sym, subst}
use Rattle.lr_names.specs.Key.{key_text}
use Rattle.lr_names.specs.declared.kind.Kind.TheVariants.{Fair}
use Rattle.lr_names.specs.declared.part.Part.TheVariants as parts
use Rattle.lr_keys.specs.KeySpace.{Keys}
use Rattle.lr_model.specs.Answer.{Objects}
use Rattle.lr_model.specs.Fair.{FairLock}
use Rattle.lr_fair.specs.Stands.{FairLocksStand}
use Rattle.lr_fair.proofs.StandsLaws.{fair_locks_stand_later}
use Rattle.lr_server.proofs.KindLaws.{first_among, second_among, third_among}
use Rattle.lr_server.proofs.KindsLater.{KindGoesOn}

-- the keys still stand for the same ones
pub stay : (old new : Keys) (objects objects2 : Objects) → KindGoesOn Fair old new
    → objects2.fair_locks ≡ objects.fair_locks
    → FairLocksStand old objects → FairLocksStand new objects2
stay old new objects objects2 goes_on same stands =
    let at : Objects → (List ℕ → FairLock) → Objects =
    λ o fair_locks. record o { fair_locks = fair_locks } in
    let hold : List ℕ → List ℕ = λ name. key_text parts.Fair name in
    let queue : List ℕ → List ℕ = λ name. key_text parts.FairQueue name in
    let stales : List ℕ → List ℕ = λ name. key_text parts.FairStale name in
    let later : FairLocksStand new objects =
    fair_locks_stand_later old new objects stands goes_on.later goes_on.early
    (λ name named. goes_on.live name (hold name) named
    (first_among (hold name) (queue name ∷ stales name ∷ [])))
    (λ name named. goes_on.live name (queue name) named
    (second_among (hold name) (queue name) (stales name ∷ [])))
    (λ name named. goes_on.live name (stales name) named
    (third_among (hold name) (queue name) (stales name) [])) in
    let stand : FairLocksStand new (at objects objects2.fair_locks) =
    subst (λ (locks : List ℕ → FairLock). FairLocksStand new (at objects locks)) (sym same)
    later in
    record { held = stand.held; queues = stand.queues }
