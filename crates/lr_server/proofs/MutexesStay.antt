-- What stays of locks where a function of another kind runs.
use Rattle.std.proofs.Common.{◌≡◌, ℕ, List, [], Option, sym, subst}
use Rattle.lr_names.specs.Key.{key_text}
use Rattle.lr_names.specs.declared.kind.Kind.TheVariants.{Mutex}
use Rattle.lr_names.specs.declared.part.Part.TheVariants as parts
use Rattle.lr_keys.specs.KeySpace.{Keys}
use Rattle.lr_model.specs.declared.hold.Hold.{Hold}
use Rattle.lr_model.specs.Answer.{Objects}
use Rattle.lr_mutex.specs.Stands.{MutexesStand}
use Rattle.lr_mutex.proofs.StandsLaws.{mutexes_stand_later}
use Rattle.lr_server.proofs.KindLaws.{first_among}
use Rattle.lr_server.proofs.KindsLater.{KindGoesOn}

-- the keys still stand for the same ones
pub stay : (old new : Keys) (objects objects2 : Objects) → KindGoesOn Mutex old new
    → objects2.mutexes ≡ objects.mutexes
    → MutexesStand old objects → MutexesStand new objects2
stay old new objects objects2 goes_on same stands =
    let at : Objects → (List ℕ → Option Hold) → Objects =
    λ o mutexes. record o { mutexes = mutexes } in
    let later : MutexesStand new objects =
    mutexes_stand_later old new objects stands goes_on.later goes_on.early
    (λ name named. let key = key_text parts.Lock name in
    goes_on.live name key named (first_among key [])) in
    subst (λ (mutexes : List ℕ → Option Hold). MutexesStand new (at objects mutexes))
    (sym same) later
