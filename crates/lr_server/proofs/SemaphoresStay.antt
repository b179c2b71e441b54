-- What stays of semaphores where a function of another kind runs.
use Rattle.std.proofs.Common.{◌≡◌, ℕ, List, [], Option, sym, subst}
use Rattle.lr_names.specs.Key.{key_text}
use Rattle.lr_names.specs.declared.kind.Kind.TheVariants.{Semaphore}
use Rattle.lr_names.specs.declared.part.Part.TheVariants as parts
use Rattle.lr_keys.specs.KeySpace.{Keys}
use Rattle.lr_model.specs.Answer.{Objects}
use Rattle.lr_semaphore.specs.Stands.{SemaphoresStand}
use Rattle.lr_semaphore.proofs.StandsLaws.{semaphores_stand_later}
use Rattle.lr_server.proofs.KindLaws.{first_among}
use Rattle.lr_server.proofs.KindsLater.{KindGoesOn}

-- the keys still stand for the same ones
pub stay : (old new : Keys) (objects objects2 : Objects) → KindGoesOn Semaphore old new
    → objects2.semaphores ≡ objects.semaphores
    → SemaphoresStand old objects → SemaphoresStand new objects2
stay old new objects objects2 goes_on same stands =
    let at : Objects → (List ℕ → Option ℕ) → Objects =
    λ o semaphores. record o { semaphores = semaphores } in
    let later : SemaphoresStand new objects =
    semaphores_stand_later old new objects stands goes_on.later goes_on.early
    (λ name named. let key = key_text parts.Semaphore name in
    goes_on.live name key named (first_among key [])) in
    subst (λ (semaphores : List ℕ → Option ℕ). SemaphoresStand new (at objects semaphores))
    (sym same) later
